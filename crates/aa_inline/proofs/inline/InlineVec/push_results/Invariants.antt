use Rattle.std.specs.Fn.{Called}
use Rattle.aa_inline.proofs.Results.{PushesResults}
use Rattle.aa_inline.proofs.inline.InlineVec.push_results.Given as goal

abbrev pub invariant-call : goal.invariant-call
invariant-call g l =
    PushesResults g.row.N (λ p. g.F.FnMut.pre p tt) (λ p y q. Called g.F.FnMut p tt y q) l.count
    l.fn.self l.fn.f l._done l.self l.f
