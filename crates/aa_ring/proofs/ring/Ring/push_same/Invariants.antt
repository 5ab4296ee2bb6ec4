use Rattle.aa_ring.proofs.Filling.{PushesSame}
use Rattle.aa_ring.proofs.ring.Ring.push_same.Given as goal

abbrev pub invariant-each : goal.invariant-each
invariant-each g l = PushesSame g.T.Clone.is_clone l.value l.count l.fn.self l._done l.self
