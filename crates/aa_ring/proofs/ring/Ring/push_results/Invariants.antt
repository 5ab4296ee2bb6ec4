use Rattle.std.specs.Fn.{Called}
use Rattle.aa_ring.proofs.Filling.{PushesResults}
use Rattle.aa_ring.proofs.ring.Ring.push_results.Given as goal

abbrev pub invariant-each : goal.invariant-each
invariant-each g l = PushesResults (λ p. g.F.FnMut.pre p tt) (λ p y q. Called g.F.FnMut p tt y q) l.count l.fn.self l.fn.f l._done l.self l.f
