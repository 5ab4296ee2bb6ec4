-- Keys that are moved from some places to others.
use Rattle.std.proofs.Common.{Bool, true, false, replicate, List, None, Option, Some, [], ap, arith, get_or, length, refl, set, suc, subst, zero, ℕ, ◌+◌, ◌<◌, ◌∙◌, ◌∷◌, ◌≡◌, ◌≤◌, ◌++◌}
use Rattle.std.specs.Prelude.{IsPermutation, ◌==◌, if◌then◌else◌}
use Rattle.std.proofs.lemmas.List.{append-nil, length-append}
use Rattle.std.proofs.lemmas.List.Sorted.{IsPermutation-trans, IsPermutation-middle, IsPermutation-append_left, IsPermutation-append_right, length_permutation}
use Rattle.allocator_api2.specs.Growth.{usize_max}
use Rattle.allocator_api2.specs.Places.{somes, empty_places, zst_places}
use Rattle.aa_table.specs.Slots.{tag_at}
use Rattle.aa_table.proofs.Maps.{emptied, filled}

module _ {X : Type 0} where
  pub none-left : (cs : List (Option X)) → ((s : ℕ) → get_or cs s None ≡ None) → somes cs ≡ []
  none-left [] h = refl
  none-left (None ∷ cs) h = none-left cs (λ s. h (suc s))
  none-left (Some x ∷ cs) h = absurd (let e = h zero in cc)

  -- where no value is in them, all places are empty
  pub all-none : (cs : List (Option X)) → length (somes cs) ≤ 0 → (s : ℕ) → get_or cs s None ≡ None
  all-none [] l s = refl
  all-none (None ∷ cs) l zero = refl
  all-none (None ∷ cs) l (suc s) = all-none cs l s
  all-none (Some x ∷ cs) l s = absurd (omega (arith, l))

  -- a value of one list of places is in another now
  pub moved-one : (all : List X) (from to : List (Option X)) (s at : ℕ) (x : X) → get_or from s None ≡ Some x → at < length to → get_or to at None ≡ None → IsPermutation all (somes to ++ somes from)
      → IsPermutation all (somes (set to at (Some x)) ++ somes (set from s None))
  moved-one all from to s at x here l free p =
      let left = somes (set from s None) in
      let a = IsPermutation-append_right (somes to) (somes from) (x ∷ left) (emptied from s x here) in
      let b = IsPermutation-middle (somes to) x left in
      let c = IsPermutation-append_left left (x ∷ somes to) (somes (set to at (Some x))) (filled to at x l free) in
      IsPermutation-trans all (somes to ++ somes from) (somes (set to at (Some x)) ++ left) p
      (IsPermutation-trans (somes to ++ somes from) (somes to ++ x ∷ left) (somes (set to at (Some x)) ++ left) a
      (IsPermutation-trans (somes to ++ x ∷ left) (x ∷ (somes to ++ left)) (somes (set to at (Some x)) ++ left) b c))

  -- all are
  pub moved-all : (all : List X) (from to : List (Option X)) → ((s : ℕ) → get_or from s None ≡ None) → IsPermutation all (somes to ++ somes from) → IsPermutation all (somes to)
  moved-all all from to none p = subst (IsPermutation all) (ap (λ xs. somes to ++ xs) (none-left from none) ∙ append-nil (somes to)) p

  -- so many values are in both
  pub both : (all : List X) (from to : List (Option X)) → IsPermutation all (somes to ++ somes from) → length (somes to) + length (somes from) ≡ length all
  both all from to p = omega (arith, length-append (somes to) (somes from), length_permutation all (somes to ++ somes from) p)

  pub emptied-same : (cs : List (Option X)) (s : ℕ) → get_or (set cs s None) s None ≡ None
  emptied-same [] s = refl
  emptied-same (c ∷ cs) zero = refl
  emptied-same (c ∷ cs) (suc s) = emptied-same cs s

  -- new places are empty
  none-of : (n s : ℕ) → get_or {A = Option X} (replicate n None) s None ≡ None
  none-of zero s = refl
  none-of (suc n) zero = refl
  none-of (suc n) (suc s) = none-of n s

  endless-none : (s : ℕ) → get_or {A = Option X} zst_places s None ≡ None
  unfolding zst_places
  endless-none s = none-of usize_max s

  either : (t : Bool) (cs ds : List (Option X)) (s : ℕ) → get_or cs s None ≡ None → get_or ds s None ≡ None → get_or (if t then cs else ds) s None ≡ None
  either true cs ds s c d = c
  either false cs ds s c d = d

  pub empty-at : (size n s : ℕ) → get_or {A = Option X} (empty_places size n) s None ≡ None
  empty-at size n s = either (size == 0) zst_places (replicate n None) s (endless-none s) (none-of n s)

-- past the last slot there is no tag
pub past : (ts : List ℕ) (s : ℕ) → length ts ≤ s → tag_at ts s ≡ 0
past [] s l = refl
past (t ∷ ts) zero l = absurd (omega arith)
past (t ∷ ts) (suc s) l = past ts s (omega arith)

no-tag : (n s : ℕ) → tag_at (replicate n 0) s ≡ 0
no-tag zero s = refl
no-tag (suc n) zero = refl
no-tag (suc n) (suc s) = no-tag n s

-- where all slots are free, each is
pub all-free : (ts : List ℕ) → ts ≡ replicate (length ts) 0 → (s : ℕ) → tag_at ts s ≡ 0
all-free ts e s = ap (λ t. tag_at t s) e ∙ no-tag (length ts) s
