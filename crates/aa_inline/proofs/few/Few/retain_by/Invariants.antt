use Rattle.std.specs.Fn.{CalledAtMut}
use Rattle.allocator_api2.specs.Choosing.{CallableAtMut}
use Rattle.aa_inline.proofs.Sifting.{SiftsTo}
use Rattle.aa_inline.proofs.few.Few.retain_by.Given as goal

abbrev pub invariant-each : goal.invariant-each
invariant-each g l =
    SiftsTo (CalledAtMut g.F.FnMut) (CallableAtMut g.F.FnMut) l.fn.keep l.fn.self l.i l.kept l.keep l.self
