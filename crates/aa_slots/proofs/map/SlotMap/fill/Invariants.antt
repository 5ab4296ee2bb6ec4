use Rattle.std.proofs.Common.{◌≡◌, ◌++◌, length}
use Rattle.aa_slots.specs.Passing.{before, cursor_lender, cursor_map, remaining}
use Rattle.aa_slots.specs.Slotted.{entries}
use Rattle.aa_slots.proofs.Passing.{filled}
use Rattle.aa_slots.proofs.map.SlotMap.fill.Given as goal

-- the values before the cursor are written, and those after it are as they were
abbrev pub invariant-each : goal.invariant-each
invariant-each g l =
    let at = l.values in
    (cursor_lender at ≡ cursor_lender l.initial.values)
    × (entries (cursor_map at) ≡ before at ++ remaining at)
    × (before at ++ filled l.value (remaining at)
    ≡ filled l.value (entries (cursor_map l.initial.values)))
    × ((cursor_map at).capacity ≡ (cursor_map l.initial.values).capacity)
    × ((cursor_map at).growth ≡ (cursor_map l.initial.values).growth)
    × ((cursor_map at).resizes ≡ (cursor_map l.initial.values).resizes)
    × ((cursor_map at).issued ≡ (cursor_map l.initial.values).issued)

abbrev pub decreases-each : goal.decreases-each
decreases-each g l = length (remaining l.values)
