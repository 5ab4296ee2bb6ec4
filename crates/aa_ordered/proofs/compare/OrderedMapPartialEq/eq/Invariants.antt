use Rattle.std.proofs.Common.{◌≡◌, length}
use Rattle.std.specs.Prelude.{◌&&◌}
use Rattle.std.specs.Cmp.Lexicographic.{pointwise}
use Rattle.aa_ordered.proofs.compare.OrderedMapPartialEq.eq.Given as goal

-- the remaining entries decide
abbrev pub invariant-each : goal.invariant-each
invariant-each g l =
    let decides = pointwise (λ e f. g.K.PartialEq.eq e.0 f.0 && g.V.PartialEq.eq e.1 f.1) in
    decides l.entries l.others ≡ decides l.self.entries l.other.entries

abbrev pub decreases-each : goal.decreases-each
decreases-each g l = length l.entries
