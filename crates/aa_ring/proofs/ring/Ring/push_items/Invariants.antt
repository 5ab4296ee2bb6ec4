use Rattle.std.proofs.Common.{◌≡◌}
use Rattle.std.specs.Iterator.{size}
use Rattle.std.specs.Mem.{type_size}
use denote.Param.{param}
use Rattle.aa_ring.specs.Extending.{pushed_all}
use Rattle.aa_ring.specs.Ringed.{HasRoom}
use Rattle.aa_ring.proofs.ring.Ring.push_items.Given as goal

-- the items so far were pushed, and the others fit if all did
abbrev pub invariant-each : goal.invariant-each
invariant-each g l =
    let left = g.I.Iterator.remaining in
    (l.self ≡ pushed_all (type_size (param 0 g.row.T)) l.fn.self l.yielded) × (HasRoom l.fn.self (size (left l.fn.iter)) → HasRoom l.self (size (left l.item-iterator)))
