use Rattle.std.proofs.Common.{◌≡◌, ◌+◌, drop}
use Rattle.ex_trees.specs.Trees.{total, total_of_all}
use Rattle.ex_trees.proofs.tree.+add_up.Given as goal

-- what was added up, and the totals of the children to come, is the total
abbrev pub invariant-loop-child : goal.invariant-loop-child
invariant-loop-child g l = l.sum + total_of_all (drop l.child-index l.child-items) ≡ total l.tree
