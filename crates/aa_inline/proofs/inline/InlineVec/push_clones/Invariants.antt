use Rattle.std.proofs.Common.{◌≡◌, ◌++◌, ◌-◌, List, length, take}
use Rattle.std.specs.List.{AllZip}
use Rattle.aa_inline.specs.Inlined.{with_written, HasRoom}
use Rattle.aa_inline.proofs.inline.InlineVec.push_clones.Given as goal

-- clones of the first ones are appended, and the others fit
abbrev pub invariant-each : goal.invariant-each
invariant-each g l =
    (added : List _) × AllZip g.T.Clone.is_clone (take l.i l.source) added × (l.self ≡ with_written l.fn.self (l.fn.self.items ++ added) l.i) × HasRoom g.row.N l.self (length l.source - l.i)
