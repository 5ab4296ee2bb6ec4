use Rattle.std.proofs.Common.{◌≡◌, drop}
use Rattle.aa_ring.specs.Ringed.{with_written}
use Rattle.aa_ring.proofs.ring.Ring.drop_first.Given as goal

-- so many of the first items are dropped
abbrev pub invariant-each : goal.invariant-each
invariant-each g l = l.self ≡ with_written l.fn.self (drop l._done l.fn.self.items) 0
