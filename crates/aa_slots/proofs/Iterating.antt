-- The pairs in slots, one by one from either end.
use Rattle.aa_slots.proofs.Common.{KeyData, List, None, Option, Some, [], ap, arith, entries_from, length, ℕ, ◌++◌, ◌+◌, ◌∷◌, ◌≡◌, refl}
use Rattle.aa_slots.proofs.Finds.{length-entries}
use Rattle.aa_slots.specs.Iterating.{pair_of, YieldsPairsInOrder, YieldsPairsInReverse}
use Rattle.std.proofs.iter.runs.Sources.{from_front, from_back}
use Rattle.std.specs.Iterator.{YieldsFirstBy, YieldsLastBy}

-- what a slot adds to the pairs, if it is at this index
abbrev pub pairs_of : {T : Type 0} → (i : ℕ) → Option (ℕ × T) → List (KeyData × T)
pairs_of i None = []
pairs_of i (Some e) = (record { index = i; serial = e.0 }, e.1) ∷ []

module _ {T : Type 0} where
  pub entries-cons : (i : ℕ) (o : Option (ℕ × T)) (ss : List (Option (ℕ × T))) → entries_from i (o ∷ ss) ≡ pairs_of i o ++ entries_from (i + 1) ss
  entries-cons i None ss = refl
  entries-cons i (Some e) ss = refl

  pub entries-push : (i j : ℕ) (ss : List (Option (ℕ × T))) (o : Option (ℕ × T)) → j ≡ i + length ss → entries_from i (ss ++ o ∷ []) ≡ entries_from i ss ++ pairs_of j o
  entries-push i j [] None e = refl
  entries-push i j [] (Some s) e = let same : i ≡ j = omega (arith, e) in λ t. (record { index = same t; serial = s.0 }, s.1) ∷ []
  entries-push i j (None ∷ ss) o e = entries-push (i + 1) j ss o (omega (arith, e))
  entries-push i j (Some s ∷ ss) o e = ap (λ zs. (record { index = i; serial = s.0 }, s.1) ∷ zs) (entries-push (i + 1) j ss o (omega (arith, e)))

module _ {T K : Type 0} where
  pub in-order : YieldsPairsInOrder T K
  in-order = from_front (YieldsFirstBy pair_of (λ rest. rest)) pair_of (λ s. s) (λ s t h. ap length h.0) (λ s x t h. h)

  pub in-reverse : YieldsPairsInReverse T K
  in-reverse = from_back (YieldsLastBy pair_of (λ rest. rest)) pair_of (λ s. s) (λ s t h. ap length h.0) (λ s x t h. h)

pub ruleset walked = (length-entries, in-order, in-reverse)
