use Rattle.std.specs.Fn.{CalledAtPairMut}
use Rattle.allocator_api2.specs.Closures.{CallableAtPairMut}
use Rattle.aa_inline.proofs.Distinguishing.{SeparatesTo}
use Rattle.aa_inline.proofs.few.Few.dedup_within.Given as goal

abbrev pub invariant-each : goal.invariant-each
invariant-each g l =
    SeparatesTo (CalledAtPairMut g.F.FnMut) (CallableAtPairMut g.F.FnMut) l.fn.same l.fn.self l.i l.kept l.same l.self
