use Rattle.aa_inline.proofs.Filling.{PushesSame}
use Rattle.aa_inline.proofs.inline.InlineVec.push_same.Given as goal

abbrev pub invariant-each : goal.invariant-each
invariant-each g l = PushesSame g.row.N g.T.Clone.is_clone l.value l.count l.fn.self l._done l.self
