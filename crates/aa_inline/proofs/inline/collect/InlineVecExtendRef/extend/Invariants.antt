use Rattle.std.proofs.Common.{◌≡◌, ◌++◌, map}
use Rattle.std.specs.Iterator.{size}
use Rattle.aa_inline.specs.Inlined.{HasRoom}
use Rattle.aa_inline.proofs.inline.collect.InlineVecExtendRef.extend.Given as goal

-- copies of what the items so far refer to are appended, and the others fit if all did
abbrev pub invariant-each : goal.invariant-each
invariant-each g l =
    let left = g.U.IntoIter.Iterator.remaining in
    (l.self.items ≡ l.fn.self.items ++ map (λ r. r.now) l.yielded)
    × (((it : _) → g.U.IntoIterator.into_iter_gives l.fn.iter it → HasRoom g.row.N l.fn.self (size (left it)))
    → HasRoom g.row.N l.self (size (left l.item-iterator)))
