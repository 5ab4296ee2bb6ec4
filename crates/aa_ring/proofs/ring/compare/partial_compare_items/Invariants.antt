use Rattle.std.proofs.Common.{◌≡◌, length}
use Rattle.std.specs.Cmp.Lexicographic.{slice_partial_cmp}
use Rattle.aa_ring.proofs.ring.compare.partial_compare_items.Given as goal

-- the remaining items decide
abbrev pub invariant-each : goal.invariant-each
invariant-each g l = slice_partial_cmp g.T.PartialOrd.partial_cmp l.items l.others ≡ slice_partial_cmp g.T.PartialOrd.partial_cmp l.left.items l.right.items

abbrev pub decreases-each : goal.decreases-each
decreases-each g l = length l.items
