use Rattle.std.proofs.Common.{◌≡◌, length}
use Rattle.std.specs.Cmp.Lexicographic.{slice_partial_cmp}
use Rattle.aa_boxed.proofs.slices.past_equal.Given as goal

-- what was passed over is equal
abbrev pub invariant-each : goal.invariant-each
invariant-each g l =
    slice_partial_cmp g.T.PartialOrd.partial_cmp l.left l.right
    ≡ slice_partial_cmp g.T.PartialOrd.partial_cmp l.fn.left l.fn.right

abbrev pub decreases-each : goal.decreases-each
decreases-each g l = length l.left
