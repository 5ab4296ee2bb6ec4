use Rattle.std.proofs.Common.{◌≡◌, ◌++◌, ◌-◌, length, take, drop}
use Rattle.allocator_api2.specs.Vector.{HasRoom, SameBlock, Writes}
use Rattle.aa_inline.proofs.few.pour_first.Given as goal

-- the items before the index are in the vector, and those from it on are as they were
abbrev pub invariant-each : goal.invariant-each
invariant-each g l =
    (l.into.items ≡ l.fn.into.items ++ take l.i l.fn.places) × (drop l.i l.places ≡ drop l.i l.fn.places) × (length l.places ≡ length l.fn.places)
    × SameBlock l.fn.into l.into × Writes l.fn.into l.i l.i l.into × HasRoom l.into (l.len - l.i)
