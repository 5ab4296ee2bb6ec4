use Rattle.std.proofs.Common.{false, length, ◌≡◌}
use Rattle.std.specs.Set.{sorted_merge}
use Rattle.aa_ordered_set.proofs.algebra.SymmetricDifferenceIterator.next.Given as goal

-- the elements that were passed are in both sets
abbrev pub invariant-each : goal.invariant-each
invariant-each g l =
    sorted_merge g.T.Ord.cmp false l.initial.self-inside.first l.initial.self-inside.second
    ≡ sorted_merge g.T.Ord.cmp false l.self-inside.first l.self-inside.second

abbrev pub decreases-each : goal.decreases-each
decreases-each g l = length l.self-inside.first
