use Rattle.std.proofs.Common.{rules}
use Rattle.aa_vec.proofs.Callable.{IsCallableInOrder-any}
use Rattle.vecbench.proofs.ours.extract_half.Goals as goal

pub loop-x-init : goal.loop-x-init
loop-x-init c = (IsCallableInOrder-any _ _ (λ f x p e. tt) _ _, search rules)
