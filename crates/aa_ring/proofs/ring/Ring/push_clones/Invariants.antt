use Rattle.std.proofs.Common.{◌≡◌, ◌++◌, ◌-◌, List, length, take}
use Rattle.std.specs.List.{AllZip}
use Rattle.aa_ring.specs.Ringed.{with_written, HasRoom}
use Rattle.aa_ring.proofs.ring.Ring.push_clones.Given as goal

-- clones of the first ones are appended, and the others fit
abbrev pub invariant-each : goal.invariant-each
invariant-each g l =
    (added : List _) × AllZip g.T.Clone.is_clone (take l.i l.source.items) added × (l.self ≡ with_written l.fn.self (l.fn.self.items ++ added) l.i) × HasRoom l.self (length l.source.items - l.i)
