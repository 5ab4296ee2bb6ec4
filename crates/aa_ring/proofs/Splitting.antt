-- Items that are removed from an end of a ring, one by one.
use Rattle.std.proofs.Common.{◌≡◌, ℕ, zero, suc, ◌+◌, ◌-◌, ◌<◌, ◌≤◌, List, [], ◌∷◌, ◌++◌, length, take, drop, get_or, refl, sym, ap, ◌∙◌, arith, length-append, length-drop}
use Rattle.std.proofs.lemmas.Bool.Decides.{nat_tests}
use Rattle.std.proofs.lemmas.List.{append-nil, drop_all, drop_at, drop_more, length-take-le, take_all, take_at, take_more}
use Rattle.aa_ring.proofs.Filling.{written-none, written-twice}

module _ {X : Type 0} where
  -- one more of the first items
  pub drop-one_more : (xs ys : List X) (x : X) (k : ℕ) → drop k xs ≡ x ∷ ys → ys ≡ drop (k + 1) xs
  drop-one_more [] ys x zero e = cc
  drop-one_more [] ys x (suc k) e = cc
  drop-one_more (z ∷ xs) ys x zero e = sym (ap (drop 1) e)
  drop-one_more (z ∷ xs) ys x (suc k) e = let n : suc k + 1 ≡ suc (k + 1) = omega arith in drop-one_more xs ys x k e ∙ sym (ap (λ i. drop i (z ∷ xs)) n)

  -- or none, if there is none
  pub drop-none_more : (xs ys : List X) (k : ℕ) → drop k xs ≡ [] → ys ≡ [] → ys ≡ drop (k + 1) xs
  drop-none_more xs ys k e f = f ∙ sym (drop_all (k + 1) xs (omega (arith, ap length e, length-drop k xs)))

pub ruleset dropped = (nat_tests, drop-one_more, drop-none_more, written-none, written-twice)

module _ {X : Type 0} where
  -- the last of the first items is moved before the others
  pub take-one_less : (xs ys : List X) (n : ℕ) (x : X) → 0 < n → n ≤ length xs → take n xs ≡ ys ++ x ∷ [] → ys ≡ take (n - 1) xs
  take-one_less xs ys n x some few e =
      let i : ℕ = n - 1 in let next : i + 1 ≡ n = omega (arith, some) in
      let long : length ys ≡ i = omega (arith, ap length e, length-append ys (x ∷ []), length-take-le n xs few) in
      sym (take_at ys (x ∷ []) i long) ∙ ap (take i) (sym e ∙ ap (λ k. take k xs) (sym next)) ∙ ap (take i) (take_more xs i x (omega (arith, few, some)))
      ∙ take_at (take i xs) (get_or xs i x ∷ []) i (length-take-le i xs (omega (arith, few)))

  pub drop-one_less : (xs ys zs : List X) (n : ℕ) (x : X) → 0 < n → n ≤ length xs → take n xs ≡ ys ++ x ∷ [] → x ∷ (drop n xs ++ zs) ≡ drop (n - 1) xs ++ zs
  drop-one_less xs ys zs n x some few e =
      let i : ℕ = n - 1 in let next : i + 1 ≡ n = omega (arith, some) in
      let long : length ys ≡ i = omega (arith, ap length e, length-append ys (x ∷ []), length-take-le n xs few) in
      let both : take i xs ++ get_or xs i x ∷ [] ≡ ys ++ x ∷ [] = sym (take_more xs i x (omega (arith, few, some))) ∙ ap (λ k. take k xs) next ∙ e in
      let last : get_or xs i x ∷ [] ≡ x ∷ [] =
      sym (drop_at (take i xs) (get_or xs i x ∷ []) i (length-take-le i xs (omega (arith, few)))) ∙ ap (drop i) both ∙ drop_at ys (x ∷ []) i long in
      ap (λ l. l ++ (drop n xs ++ zs)) (sym last) ∙ ap (λ k. get_or xs i x ∷ (drop k xs ++ zs)) (sym next) ∙ sym (ap (λ l. l ++ zs) (drop_more xs i x (omega (arith, few, some))))

pub ruleset split = (nat_tests, take-one_less, drop-one_less, written-none, written-twice, take_all, drop_all, append-nil)
