use Rattle.std.proofs.Common.{◌≡◌, ◌+◌}
use Rattle.std.specs.Prelude.{sum}
use Rattle.ex_trees.specs.Linked.{values_of}
use Rattle.ex_trees.proofs.list.total_by_loop.Given as goal

-- what was added up, and the sum of the remaining values, is the sum of all
abbrev pub invariant-down : goal.invariant-down
invariant-down g l = l.sum + sum (values_of l.rest) ≡ sum (values_of l.head)
