use Rattle.std.proofs.Common.{◌≡◌, ◌++◌, reverse}
use Rattle.ex_trees.specs.Linked.{values_of}
use Rattle.ex_trees.proofs.list.into_reversed.Given as goal

-- the rest turned round, before what is turned already, is the whole turned round
abbrev pub invariant-turn : goal.invariant-turn
invariant-turn g l = reverse (values_of l.rest) ++ values_of l.done ≡ reverse (values_of l.initial.rest)
