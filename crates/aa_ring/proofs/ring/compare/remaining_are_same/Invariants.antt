use Rattle.std.proofs.Common.{◌≡◌, length}
use Rattle.std.specs.Cmp.Lexicographic.{pointwise}
use Rattle.aa_ring.proofs.ring.compare.remaining_are_same.Given as goal

-- the remaining items decide
abbrev pub invariant-each : goal.invariant-each
invariant-each g l = pointwise g.T.PartialEq.eq l.items l.others ≡ pointwise g.T.PartialEq.eq l.fn.left l.fn.right

abbrev pub decreases-each : goal.decreases-each
decreases-each g l = length l.items
