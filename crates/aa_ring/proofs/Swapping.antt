-- Items of a ring that take another's place.
use Rattle.std.proofs.Common.{◌≡◌, ℕ, zero, suc, ◌+◌, ◌-◌, ◌<◌, ◌≤◌, List, [], ◌∷◌, ◌++◌, length, take, drop, get_or, Some, refl, sym, ap, ◌∙◌, arith, length-append, length-set}
use Rattle.std.specs.Prelude.{slice_get, slice_set, swap_remove}
use Rattle.std.proofs.Math.Seq.{get_or-append_seam}
use Rattle.std.proofs.lemmas.Bool.Decides.{nat_tests}
use Rattle.std.proofs.lemmas.List.{set-append_left, set-append_right, take_at}
use Rattle.aa_ring.specs.Ringed.{swap_remove_front}

module _ {X : Type 0} where
  -- the last one taken, and put in the place of the one at i, or itself the one at i
  pub last-swapped : (xs ys : List X) (x d : X) (i : ℕ) → xs ≡ ys ++ x ∷ [] → i < length ys → slice_set ys i x ≡ swap_remove xs i d
  last-swapped xs ys x d i e few =
      let n : length xs - 1 ≡ length ys = omega (arith, ap length e, length-append ys (x ∷ [])) in
      let last : get_or xs (length ys) d ≡ x = ap (λ zs. get_or zs (length ys) d) e ∙ get_or-append_seam ys x [] d in
      let front : slice_set xs i x ≡ slice_set ys i x ++ x ∷ [] = ap (λ zs. slice_set zs i x) e ∙ set-append_left ys (x ∷ []) i x few in
      let long : length (slice_set ys i x) ≡ length ys = length-set ys i x in
      sym ((λ t. take (n t) (slice_set xs i (get_or xs (n t) d))) ∙ ap (λ y. take (length ys) (slice_set xs i y)) last ∙ ap (take (length ys)) front ∙ take_at (slice_set ys i x) (x ∷ []) (length ys) long)

  pub last-alone : (xs ys : List X) (x d : X) (i : ℕ) → xs ≡ ys ++ x ∷ [] → i ≡ length ys → ys ≡ swap_remove xs i d
  last-alone xs ys x d i e at =
      let n : length xs - 1 ≡ length ys = omega (arith, ap length e, length-append ys (x ∷ [])) in
      let last : get_or xs (length ys) d ≡ x = ap (λ zs. get_or zs (length ys) d) e ∙ get_or-append_seam ys x [] d in
      let same : slice_set xs i x ≡ ys ++ x ∷ [] = (λ t. slice_set (e t) (at t) x) ∙ set-append_right ys (x ∷ []) (length ys) (length ys) x refl (omega arith) ∙ (let z : length ys - length ys ≡ 0 = omega arith in ap (λ k. ys ++ slice_set (x ∷ []) k x) z) in
      sym ((λ t. take (n t) (slice_set xs i (get_or xs (n t) d))) ∙ ap (λ y. take (length ys) (slice_set xs i y)) last ∙ ap (take (length ys)) same ∙ take_at ys (x ∷ []) (length ys) refl)

  pub last-read : (xs ys : List X) (x : X) (i : ℕ) → xs ≡ ys ++ x ∷ [] → i ≡ length ys → Some x ≡ slice_get xs i
  last-read xs ys x i e at = sym ((λ t. slice_get (e t) (at t)) ∙ read-end ys x)
    where
      read-end : (zs : List X) (y : X) → slice_get (zs ++ y ∷ []) (length zs) ≡ Some y
      read-end [] y = refl
      read-end (z ∷ zs) y = read-end zs y

  -- an item before the last one
  pub read-before : (xs ys : List X) (x : X) (i : ℕ) → xs ≡ ys ++ x ∷ [] → i < length ys → slice_get ys i ≡ slice_get xs i
  read-before xs ys x i e few = sym (ap (λ zs. slice_get zs i) e ∙ inside ys i few)
    where
      inside : (zs : List X) (k : ℕ) → k < length zs → slice_get (zs ++ x ∷ []) k ≡ slice_get zs k
      inside [] k h = absurd (omega (arith, h))
      inside (z ∷ zs) zero h = refl
      inside (z ∷ zs) (suc k) h = inside zs k (omega (arith, h))

  -- the first one taken, and put in the place of the one at i, or itself the one at i
  pub first-swapped : (xs ys : List X) (x d : X) (i : ℕ) → xs ≡ x ∷ ys → 0 < i → slice_set ys (i - 1) x ≡ swap_remove_front xs i d
  first-swapped xs ys x d zero e some = absurd (omega (arith, some))
  first-swapped xs ys x d (suc i) e some =
      let z : suc i - 1 ≡ i = omega arith in
      ap (λ k. slice_set ys k x) z ∙ sym (ap (λ zs. swap_remove_front zs (suc i) d) e)

  pub first-alone : (xs ys : List X) (x d : X) (i : ℕ) → xs ≡ x ∷ ys → i ≡ 0 → ys ≡ swap_remove_front xs i d
  first-alone xs ys x d i e at = sym (λ t. swap_remove_front (e t) (at t) d)

  pub first-read : (xs ys : List X) (x : X) (i : ℕ) → xs ≡ x ∷ ys → i ≡ 0 → Some x ≡ slice_get xs i
  first-read xs ys x i e at = sym (λ t. slice_get (e t) (at t))

  pub read-after : (xs ys : List X) (x : X) (i : ℕ) → xs ≡ x ∷ ys → 0 < i → slice_get ys (i - 1) ≡ slice_get xs i
  read-after xs ys x zero e some = absurd (omega (arith, some))
  read-after xs ys x (suc i) e some = let z : suc i - 1 ≡ i = omega arith in ap (slice_get ys) z ∙ sym (ap (λ zs. slice_get zs (suc i)) e)

pub ruleset swapped = (nat_tests, last-swapped, last-alone, last-read, read-before, first-swapped, first-alone, first-read, read-after, length-append)
