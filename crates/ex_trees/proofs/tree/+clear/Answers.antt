use Rattle.std.proofs.Common.{◌<◌, ◌≢◌, ◌∙◌, length, length-set, get_or-set_other, refl, arith, ap}
use Rattle.ex_trees.specs.Trees.{nodes, with_values}
use Rattle.ex_trees.specs.declared.tree.Tree.{out-Tree}
use Rattle.ex_trees.specs.declared.tree.Tree.TheViews.{out-roll-Tree}
use Rattle.ex_trees.proofs.Nodes.{changed_next, changed_whole}
use Rattle.ex_trees.proofs.tree.+clear.Goals as goal

pub loop-i-preserved : goal.loop-i-preserved
loop-i-preserved g t c =
    let inv = simp out-roll-Tree at c.loop-i.invariant in
    let lt : c.loop-i.i < length (out-Tree _ c.loop-i.tree).below.items = omega (arith, c.loop-i-test.true, inv.0, inv.2) in
    simp out-roll-Tree (
      length-set _ _ _ ∙ inv.0,
      (λ k d le. let ne : k ≢ c.loop-i.i = omega (arith, le) in get_or-set_other (out-Tree _ c.loop-i.tree).below.items c.loop-i.i k c.clear.new.tree d ne ∙ inv.1 k d (omega (arith, le))),
      inv.2,
      inv.3,
      changed_next (λ _. 0) c.loop-i.i (out-Tree _ c.loop-i.tree).below.items c.index_mut.result.now c.clear.new.tree lt (c.clear.ensures ∙ ap (λ t. with_values (λ _. 0) (nodes t)) c.index_mut.ensures.value) ∙ inv.4,
    )

pub returns : goal.returns
returns g t c =
    changed_whole (λ _. 0) c.args.tree.now c.loop-i.tree c.loop-i.i 0 _ _ c.loop-i.invariant.3 refl (simp out-roll-Tree) refl
    c.loop-i.invariant.0 (omega (arith, c.loop-i-test.false, c.loop-i.invariant.0, c.loop-i.invariant.2)) c.loop-i.invariant.4
