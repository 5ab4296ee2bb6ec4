use Rattle.aa_vec.proofs.Callable.{IsCallableAlong-any}
use Rattle.vecbench.proofs.ours.dedup_by_key.Goals as goal

pub dedup_by_key-requires : goal.dedup_by_key-requires
dedup_by_key-requires c = IsCallableAlong-any _ _ (λ f x l. (λ p e. tt, λ key next y called p e. tt)) _ _
