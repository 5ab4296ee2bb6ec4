use Rattle.std.proofs.Common.{◌≡◌, length}
use Rattle.std.specs.Cmp.Lexicographic.{slice_cmp}
use Rattle.aa_ring.proofs.ring.compare.compare_items.Given as goal

-- the remaining items decide
abbrev pub invariant-each : goal.invariant-each
invariant-each g l = slice_cmp g.T.Ord.cmp l.items l.others ≡ slice_cmp g.T.Ord.cmp l.left.items l.right.items

abbrev pub decreases-each : goal.decreases-each
decreases-each g l = length l.items
