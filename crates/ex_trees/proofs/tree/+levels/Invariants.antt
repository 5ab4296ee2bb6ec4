use Rattle.std.proofs.Common.{◌≡◌, ◌^◌, ◌-◌, suc, drop}
use Rattle.std.specs.Prelude.{min, max}
use Rattle.ex_trees.specs.Trees.{height, height_of_all}
use Rattle.ex_trees.proofs.tree.+levels.Given as goal

-- the most levels so far, and those of the children to come, are those of the tree
abbrev pub invariant-loop-child : goal.invariant-loop-child
invariant-loop-child g l = min (suc (max l.most (height_of_all (drop l.child-index l.child-items)))) (2 ^ 64 - 1) ≡ min (height l.tree) (2 ^ 64 - 1)
