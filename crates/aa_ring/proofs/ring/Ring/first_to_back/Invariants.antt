use Rattle.std.proofs.Common.{◌≡◌, ◌++◌, take, drop}
use Rattle.aa_ring.specs.Ringed.{with_written}
use Rattle.aa_ring.proofs.ring.Ring.first_to_back.Given as goal

-- so many of the first items were moved to the back
abbrev pub invariant-each : goal.invariant-each
invariant-each g l = l.self ≡ with_written l.fn.self (drop l._done l.fn.self.items ++ take l._done l.fn.self.items) l._done
