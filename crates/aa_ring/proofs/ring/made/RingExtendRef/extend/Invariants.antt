use Rattle.std.proofs.Common.{◌≡◌, map}
use Rattle.std.specs.Iterator.{size}
use Rattle.std.specs.Mem.{type_size}
use denote.Param.{copied}
use Rattle.aa_ring.specs.Extending.{pushed_all}
use Rattle.aa_ring.specs.Ringed.{HasRoom}
use Rattle.aa_ring.proofs.ring.made.RingExtendRef.extend.Given as goal

-- a copy of each item so far was pushed, and the others fit if all did
abbrev pub invariant-each : goal.invariant-each
invariant-each g l =
    let left = g.I.IntoIter.Iterator.remaining in
    (l.self ≡ pushed_all (type_size (copied 0 g.row.T)) l.fn.self (map (λ x. x.now) l.yielded))
    × (((it : _) → g.I.IntoIterator.into_iter_gives l.fn.iter it → HasRoom l.fn.self (size (left it)))
    → HasRoom l.self (size (left l.item-iterator)))
