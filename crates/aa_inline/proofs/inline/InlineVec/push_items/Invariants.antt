use Rattle.std.proofs.Common.{◌≡◌}
use Rattle.std.specs.Iterator.{size}
use Rattle.std.specs.Mem.{type_size}
use denote.Param.{param}
use Rattle.aa_inline.specs.Extending.{pushed_all}
use Rattle.aa_inline.specs.Inlined.{HasRoom}
use Rattle.aa_inline.proofs.inline.InlineVec.push_items.Given as goal

-- the items so far were pushed, and the others fit if all did
abbrev pub invariant-each : goal.invariant-each
invariant-each g l =
    let left = g.I.Iterator.remaining in
    (l.self ≡ pushed_all (type_size (param 0 g.row.T)) g.row.N l.fn.self l.yielded) × (HasRoom g.row.N l.fn.self (size (left l.fn.iter)) → HasRoom g.row.N l.self (size (left l.item-iterator)))
