use Rattle.aa_vec.proofs.Callable.{IsCallableInOrder-any}
use Rattle.vecbench.proofs.ours.retain_wide.Goals as goal

pub retain-requires : goal.retain-requires
retain-requires c = IsCallableInOrder-any _ _ (λ f x p e. tt) _ _
