-- Closures that may be called with any arguments: a caller of `retain` or `dedup_by` proves its
-- premise by one of these.
use Rattle.aa_vec.proofs.Common.{Bool, List, [], ◌∷◌, MayCallInOrder, MayChainFrom, MayDeduplicate, IsCallableInOrder, IsCallableAlong}

may_ask : {F T : Type 0} (Calls : F → T → Bool → F → T → Type 0) (Takes : F → T → Type 0)
    → ((f : F) (x : T) → Takes f x) → (f : F) (xs : List T) → MayCallInOrder Calls Takes f xs
may_ask Calls Takes any f [] = tt
may_ask Calls Takes any f (x ∷ xs) = (any f x, λ answer next y a. may_ask Calls Takes any next xs)

pub IsCallableInOrder-any : {F T : Type 0} (Calls : F → T → Bool → F → T → Type 0)
    (Takes : F → T → Type 0) → ((f : F) (x : T) → Takes f x) → (f : F) (xs : List T)
    → IsCallableInOrder Calls Takes f xs
IsCallableInOrder-any Calls Takes any f xs = record { along = may_ask Calls Takes any f xs }

module _ {F T : Type 0} (Calls : F → T → T → Bool → F → T → T → Type 0) (Takes : F → T → T → Type 0)
    (any : (f : F) (x l : T) → Takes f x l) where
  may_chain : (f : F) (l : T) (xs : List T) → MayChainFrom Calls Takes f l xs
  may_chain f l [] = tt
  may_chain f l (x ∷ xs) =
      (any f x l, λ next y k a. may_chain next k xs, λ next y k a. may_chain next y xs)

  may_deduplicate : (f : F) (xs : List T) → MayDeduplicate Calls Takes f xs
  may_deduplicate f [] = tt
  may_deduplicate f (x ∷ xs) = may_chain f x xs

  pub IsCallableAlong-any : (f : F) (xs : List T) → IsCallableAlong Calls Takes f xs
  IsCallableAlong-any f xs = record { along = may_deduplicate f xs }
