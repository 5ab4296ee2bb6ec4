use Rattle.aa_gap.proofs.Common.{length, text, ◌≡◌}
use Rattle.std.specs.Cmp.Lexicographic.{pointwise}
use Rattle.aa_gap.proofs.gap_buffer.compare.same.Given as goal

-- the remaining elements decide
abbrev pub invariant-each : goal.invariant-each
invariant-each g l = pointwise g.T.PartialEq.eq l.items l.others
    ≡ pointwise g.T.PartialEq.eq (text l.left) (text l.right)

abbrev pub decreases-each : goal.decreases-each
decreases-each g l = length l.items
