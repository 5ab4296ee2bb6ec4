use Rattle.allocator_api2.specs.RangeCommands.{TakesBack}
use Rattle.allocator_api2.proofs.runner.draining.take_back.Given as goal

abbrev pub invariant-each : goal.invariant-each
invariant-each g l = TakesBack l.fn.items l.fn.side l._taken l.items l.side
