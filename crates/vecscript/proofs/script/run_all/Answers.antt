use Rattle.allocator_api2.proofs.Callable.{IsCallable-any}
use Rattle.vecscript.proofs.script.run_all.Goals as goal

pub run-requires-clause-callable : goal.run-requires-clause-callable
run-requires-clause-callable g c = IsCallable-any _ _ c.requires.keep c.requires.same _ _
