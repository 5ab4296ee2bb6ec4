use Rattle.aa_gap.proofs.{Insert, Made, type_size}
use Rattle.aa_gap.specs.Buffer.{HasRoom}
use Rattle.std.specs.Iterator.{size}
use Rattle.std.specs.Prelude.{map}
use Rattle.aa_gap.proofs.gap_buffer.GapBuffer.insert_items.Given as goal

-- the items so far were inserted, and the others fit if all did
abbrev pub invariant-each : goal.invariant-each
invariant-each g l =
    let left = g.I.Iterator.remaining in
    Made (type_size g.row.T) l.fn.self (map Insert l.yielded) l.self
    × (HasRoom l.fn.self (size (left l.fn.iter)) → HasRoom l.self (size (left l.item-iterator)))
