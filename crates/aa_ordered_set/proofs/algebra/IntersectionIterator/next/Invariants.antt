use Rattle.std.proofs.Common.{length, ◌≡◌}
use Rattle.std.specs.Prelude.{filter}
use Rattle.aa_ordered_set.specs.Sets.{has}
use Rattle.aa_ordered_set.proofs.algebra.IntersectionIterator.next.Given as goal

-- the elements that were looked up are not among the items
abbrev pub invariant-each : goal.invariant-each
invariant-each g l =
    filter (has g.T.Ord.cmp l.initial.self-inside.other.now.elements) l.initial.self-inside.rest
    ≡ filter (has g.T.Ord.cmp l.self-inside.other.now.elements) l.self-inside.rest

abbrev pub decreases-each : goal.decreases-each
decreases-each g l = length l.self-inside.rest
