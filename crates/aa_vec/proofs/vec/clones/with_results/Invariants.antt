use Rattle.std.specs.Fn.{Called}
use Rattle.aa_vec.proofs.Turns.{Turns}
use Rattle.aa_vec.proofs.vec.clones.with_results.Given as goal

abbrev pub invariant-each : goal.invariant-each
invariant-each g l = Turns (λ p. g.F.FnMut.pre p tt) (λ p y q. Called g.F.FnMut p tt y q) l.fn.list
    l.count l.initial.f l._filled l.list l.f
