use Rattle.allocator_api2.specs.RangeCommands.{TakesFront}
use Rattle.allocator_api2.proofs.runner.draining.take_front.Given as goal

abbrev pub invariant-each : goal.invariant-each
invariant-each g l = TakesFront l.fn.items l.fn.side l._taken l.items l.side
