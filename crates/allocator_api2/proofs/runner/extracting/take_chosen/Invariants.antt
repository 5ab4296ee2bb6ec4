use Rattle.allocator_api2.proofs.Common.{CalledAtMut, CallableAtMut}
use Rattle.allocator_api2.proofs.ExtractParts.{TakenSoFar}
use Rattle.allocator_api2.proofs.runner.extracting.take_chosen.Given as goal

abbrev pub invariant-each : goal.invariant-each
invariant-each g l =
    TakenSoFar (CalledAtMut g.K.FnMut) (CallableAtMut g.K.FnMut) l.fn.keep l.fn.range l.fn.side
    l._taken l.keep l.range l.side
