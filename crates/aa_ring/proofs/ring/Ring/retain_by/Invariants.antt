use Rattle.std.specs.Fn.{CalledAtMut}
use Rattle.allocator_api2.specs.Choosing.{CallableAtMut}
use Rattle.aa_ring.proofs.Retaining.{TurnsTo}
use Rattle.aa_ring.proofs.ring.Ring.retain_by.Given as goal

abbrev pub invariant-each : goal.invariant-each
invariant-each g l = TurnsTo (CalledAtMut g.F.FnMut) (CallableAtMut g.F.FnMut) l.fn.keep l.fn.self l._done l.keep l.self
