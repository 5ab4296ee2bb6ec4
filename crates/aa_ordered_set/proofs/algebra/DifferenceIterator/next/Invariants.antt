use Rattle.std.proofs.Common.{length, ◌≡◌}
use Rattle.std.specs.Prelude.{filter, not}
use Rattle.aa_ordered_set.specs.Sets.{has}
use Rattle.aa_ordered_set.proofs.algebra.DifferenceIterator.next.Given as goal

-- the elements that were looked up are not among the items
abbrev pub invariant-each : goal.invariant-each
invariant-each g l =
    filter (λ x. not (has g.T.Ord.cmp l.initial.self-inside.other.now.elements x)) l.initial.self-inside.rest
    ≡ filter (λ x. not (has g.T.Ord.cmp l.self-inside.other.now.elements x)) l.self-inside.rest

abbrev pub decreases-each : goal.decreases-each
decreases-each g l = length l.self-inside.rest
