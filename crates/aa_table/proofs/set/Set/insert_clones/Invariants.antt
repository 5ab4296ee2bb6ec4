use Rattle.std.proofs.Common.{List, length, ◌++◌, ◌≡◌}
use Rattle.aa_table.specs.SetContents.{SetHasRoom}
use Rattle.aa_table.specs.SetOperators.{part_of, InsertsClones}
use Rattle.aa_table.proofs.set.Set.insert_clones.Given as goal

-- clones of those in the part that were passed were inserted, and there is capacity for the others
abbrev pub invariant-each : goal.invariant-each
invariant-each g l =
    let part = λ (xs : List g.row.T.Denot). part_of g.T.PartialEq.eq l.part xs l.other.elements in
    (done : List g.row.T.Denot) × InsertsClones g.T.PartialEq.eq g.T.Clone.is_clone l.fn.self done l.self
    × (done ++ part l.rest ≡ part l.from.elements) × SetHasRoom l.self (length (part l.rest))

abbrev pub decreases-each : goal.decreases-each
decreases-each g l = length l.rest
