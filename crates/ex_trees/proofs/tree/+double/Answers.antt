use Rattle.std.proofs.Common.{◌^◌, ◌-◌, ◌*◌, ◌<◌, ◌≢◌, length, length-set, get_or-set_other, sym, arith, ap, ◌∙◌}
use Rattle.std.specs.Prelude.{min}
use Rattle.ex_trees.specs.declared.tree.Tree.TheViews.{out-roll-Tree}
use Rattle.ex_trees.proofs.Nodes.{changed_next, changed_whole, refilled}
use Rattle.ex_trees.proofs.tree.+double.Goals as goal

pub returns : goal.returns
returns g t c =
    let before = c.as_mut_slice-child-items.ensures.value in let inv = c.loop-child.invariant in
    changed_whole (λ n. min (n * 2) (2 ^ 64 - 1)) c.args.tree.now _ c.loop-child.child-index c.saturating_mul-tree.result c.loop-child.child-items c.as_mut_slice-child-items.result.now
    (simp out-roll-Tree) (simp out-roll-Tree (refilled _ _ _ (simp out-roll-Tree at (inv.2 ∙ ap length before)))) (sym (simp out-roll-Tree at before))
    c.saturating_mul-tree.ensures inv.2 (omega (arith, c.loop-child-test.false, inv.2)) inv.1

pub loop-child-preserved : goal.loop-child-preserved
loop-child-preserved g t c =
    let xs = c.loop-child.child-items in let i = c.loop-child.child-index in let new = c.double.new.tree in let inv = c.loop-child.invariant in
    let lt : i < length xs = omega (arith, c.loop-child-test.true, inv.2) in (
      (length-set xs i new ∙ inv.0.0, λ k d le. let ne : k ≢ i = omega (arith, le) in get_or-set_other xs i k new d ne ∙ inv.0.1 k d (omega (arith, le))),
      changed_next (λ n. min (n * 2) (2 ^ 64 - 1)) i xs c.child-item.result new lt c.double.ensures ∙ inv.1,
      length-set xs i new ∙ inv.2,
    )
