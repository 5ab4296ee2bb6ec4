use Rattle.std.proofs.Common.{◌≡◌, length}
use Rattle.std.specs.Cmp.Lexicographic.{pointwise}
use Rattle.aa_slots.specs.Slotted.{entries, same_entry}
use Rattle.aa_slots.proofs.map.compare.SlotMapPartialEq.eq.Given as goal

-- the remaining pairs decide
abbrev pub invariant-each : goal.invariant-each
invariant-each g l =
    let decides = pointwise (same_entry g.T.PartialEq.eq) in
    decides l.pairs l.others ≡ decides (entries l.self) (entries l.other)

abbrev pub decreases-each : goal.decreases-each
decreases-each g l = length l.pairs
