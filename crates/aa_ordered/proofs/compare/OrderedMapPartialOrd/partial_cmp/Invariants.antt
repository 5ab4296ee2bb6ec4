use Rattle.std.proofs.Common.{◌≡◌, length}
use Rattle.std.specs.Ordering.{partial_ordering_then}
use Rattle.std.specs.Cmp.Lexicographic.{slice_partial_cmp}
use Rattle.aa_ordered.proofs.compare.OrderedMapPartialOrd.partial_cmp.Given as goal

-- the remaining entries decide
abbrev pub invariant-each : goal.invariant-each
invariant-each g l =
    let decides = slice_partial_cmp (λ e f. partial_ordering_then (g.K.PartialOrd.partial_cmp e.0 f.0) (g.V.PartialOrd.partial_cmp e.1 f.1)) in
    decides l.entries l.others ≡ decides l.self.entries l.other.entries

abbrev pub decreases-each : goal.decreases-each
decreases-each g l = length l.entries
