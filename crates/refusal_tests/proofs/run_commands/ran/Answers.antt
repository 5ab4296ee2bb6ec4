use Rattle.allocator_api2.proofs.Callable.{IsCallable-any}
use Rattle.refusal_tests.proofs.run_commands.ran.Goals as goal

pub run-requires-clause-callable : goal.run-requires-clause-callable
run-requires-clause-callable c = IsCallable-any _ _ (λ k x p e. tt) (λ s x y p q e f. tt) _ _
