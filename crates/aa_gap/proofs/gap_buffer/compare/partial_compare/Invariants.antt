use Rattle.aa_gap.proofs.Common.{length, text, ◌≡◌}
use Rattle.std.specs.Cmp.Lexicographic.{slice_partial_cmp}
use Rattle.aa_gap.proofs.gap_buffer.compare.partial_compare.Given as goal

-- the remaining elements decide
abbrev pub invariant-each : goal.invariant-each
invariant-each g l = slice_partial_cmp g.T.PartialOrd.partial_cmp l.items l.others
    ≡ slice_partial_cmp g.T.PartialOrd.partial_cmp (text l.left) (text l.right)

abbrev pub decreases-each : goal.decreases-each
decreases-each g l = length l.items
