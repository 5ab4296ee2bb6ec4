use Rattle.std.proofs.Common.{◌≡◌, ◌+◌, ◌-◌, ◌^◌, suc, sym, ap, ◌∙◌, arith}
use Rattle.std.specs.Prelude.{min, max}
use Rattle.std.proofs.lemmas.List.{drop_all}
use Rattle.ex_trees.specs.Trees.{height, height_of_all}
use Rattle.ex_trees.proofs.Totals.{levels_next}
use Rattle.ex_trees.proofs.tree.+levels.Goals as goal

pub loop-child-preserved : goal.loop-child-preserved
loop-child-preserved g t c =
    rw c.max-most.ensures (levels_next c.as_slice-child-items.result.now c.loop-child.child-index c.child-item.result c.loop-child.most c.levels.result (2 ^ 64 - 1) (min (height c.args.tree.now) (2 ^ 64 - 1)) c.loop-child-test.true c.child-item.is c.levels.ensures c.loop-child.invariant)

pub returns : goal.returns
returns g t c =
    let m = c.loop-child.most in
    let none : min (m + 1) (2 ^ 64 - 1) ≡ min (suc (max m 0)) (2 ^ 64 - 1) = omega arith in
    c.saturating_add.ensures ∙ none ∙ ap (λ ys. min (suc (max m (height_of_all ys))) (2 ^ 64 - 1)) (sym (drop_all c.loop-child.child-index c.as_slice-child-items.result.now c.loop-child-test.false)) ∙ c.loop-child.invariant
