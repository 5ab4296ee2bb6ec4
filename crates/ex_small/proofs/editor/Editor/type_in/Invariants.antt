use Rattle.std.proofs.Common.{◌≡◌, ◌++◌, ◌-◌, length, take}
use Rattle.allocator_api2.specs.Buffer.{HasRoom}
use Rattle.allocator_api2.specs.declared.raw_vec.Growth.TheVariants.{Doubling}
use Rattle.ex_small.specs.Editor.{with_room}
use Rattle.ex_small.proofs.editor.Editor.type_in.Given as goal

-- the bytes so far were inserted within the reserved capacity, and the others fit
abbrev pub invariant-loop-byte : goal.invariant-loop-byte
invariant-loop-byte g l =
    (l.self-inside.line.before ≡ l.fn.self.before ++ take l.byte-index l.bytes) × (l.self-inside.line.after ≡ l.fn.self.after) × (l.self-inside.line.capacity ≡ (with_room l.fn.self (length l.bytes)).capacity)
    × (l.self-inside.line.growth ≡ Doubling) × HasRoom l.self-inside.line (length l.bytes - l.byte-index)
