use Rattle.aa_inline.proofs.Deduplicating.{MovesDistinct}
use Rattle.aa_inline.proofs.inline.dedup.move_distinct.Given as goal

abbrev pub invariant-each : goal.invariant-each
invariant-each g l = MovesDistinct g.T.PartialEq.eq l.fn.items l.i l.kept l.items
