use Rattle.std.proofs.Common.{◌≡◌, ◌++◌, drop, reverse}
use Rattle.ex_trees.specs.Linked.{values_of}
use Rattle.ex_trees.proofs.list.list_of.Given as goal

-- what is there already turned round, before the numbers to come, is all of them
abbrev pub invariant-each : goal.invariant-each
invariant-each g l = reverse (values_of l.turned) ++ drop l.number-index l.numbers ≡ l.numbers
