use Rattle.std.proofs.Common.{List, length, ◌+◌, ◌≡◌}
use Rattle.aa_table.specs.SetOperators.{part_of}
use Rattle.aa_table.proofs.set.Set.count_in.Given as goal

-- of the elements that were passed, those that are not in the part were discounted
abbrev pub invariant-each : goal.invariant-each
invariant-each g l =
    let part = λ (xs : List g.row.T.Denot). length (part_of g.T.PartialEq.eq l.part xs l.other.elements) in
    l.count + part l.rest ≡ part l.self.elements + length l.rest

abbrev pub decreases-each : goal.decreases-each
decreases-each g l = length l.rest
