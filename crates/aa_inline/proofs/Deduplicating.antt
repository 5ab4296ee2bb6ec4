-- Items that do not equal the last one kept, moved to the front of a list by swaps.
use Rattle.std.proofs.Common.{inl, inr, ◌⊎◌, ◌≡◌, ℕ, zero, suc, ◌+◌, ◌-◌, ◌<◌, ◌≤◌, Bool, true, false, cond, List, [], ◌∷◌, ◌++◌, length, take, drop, get_or, refl, sym, ap, ◌∙◌, arith, length-set, length-take-le}
use Rattle.std.specs.Prelude.{slice_set}
use Rattle.std.specs.List.{dedup, dedup_from, swap}
use Rattle.std.proofs.lemmas.Grind.{drop_more_same}
use Rattle.std.proofs.lemmas.List.{drop-set-lt, drop_more, take_more, take-set-le}
use Rattle.aa_inline.proofs.Fews.{take-push}

-- an element of a list, counted from its end
abbrev last_or : {X : Type 0} → List X → X → X
last_or [] d = d
last_or (x ∷ []) d = x
last_or (x ∷ y ∷ xs) d = last_or (y ∷ xs) d

module _ {X : Type 0} (same : X → X → Bool) where
  from-some : (l : X) (xs : List X) (d : X) → (y : X) × (ys : List X) × (dedup_from same l xs ≡ y ∷ ys)
  from-some l [] d = (l, [], refl)
  from-some l (x ∷ xs) d = by (same x l) (from-some l xs d)
    where
      by : (b : Bool) → ((y : X) × (ys : List X) × (dedup_from same l xs ≡ y ∷ ys)) → (y : X) × (ys : List X) × (cond b (dedup_from same l xs) (l ∷ dedup_from same x xs) ≡ y ∷ ys)
      by true p = p
      by false p = (l, dedup_from same x xs, refl)

  last-after : (l x : X) (xs : List X) (d : X) → last_or (l ∷ dedup_from same x xs) d ≡ last_or (dedup_from same x xs) d
  last-after l x xs d = let p = from-some x xs d in ap (λ ys. last_or (l ∷ ys) d) p.2 ∙ ap (λ ys. last_or ys d) (sym p.2)

  -- one more element
  abbrev Grows : X → List X → X → X → Type 0
  Grows l xs x d = dedup_from same l (xs ++ x ∷ []) ≡ cond (same x (last_or (dedup_from same l xs) d)) (dedup_from same l xs) (dedup_from same l xs ++ x ∷ [])

  more-from : (l : X) (xs : List X) (x d : X) → Grows l xs x d
  more-from l [] x d = refl
  more-from l (y ∷ xs) x d = by (same y l) (more-from l xs x d) (more-from y xs x d)
    where
      apart : (b : Bool) (ys zs : List X) → l ∷ cond b ys zs ≡ cond b (l ∷ ys) (l ∷ zs)
      apart true ys zs = refl
      apart false ys zs = refl

      by : (b : Bool) → Grows l xs x d → Grows y xs x d → cond b (dedup_from same l (xs ++ x ∷ [])) (l ∷ dedup_from same y (xs ++ x ∷ []))
          ≡ cond (same x (last_or (cond b (dedup_from same l xs) (l ∷ dedup_from same y xs)) d)) (cond b (dedup_from same l xs) (l ∷ dedup_from same y xs)) (cond b (dedup_from same l xs) (l ∷ dedup_from same y xs) ++ x ∷ [])
      by true p q = p
      by false p q =
          let ds : List X = dedup_from same y xs in
          ap (λ ys. l ∷ ys) q ∙ apart (same x (last_or ds d)) ds (ds ++ x ∷ []) ∙ ap (λ k. cond (same x k) (l ∷ ds) (l ∷ (ds ++ x ∷ []))) (sym (last-after l y xs d))

  more : (xs : List X) (x d : X) → 0 < length xs → dedup same (xs ++ x ∷ []) ≡ cond (same x (last_or (dedup same xs) d)) (dedup same xs) (dedup same xs ++ x ∷ [])
  more [] x d some = absurd (omega (arith, some))
  more (l ∷ xs) x d some = more-from l xs x d

-- the last of the first k
last-read : {X : Type 0} (xs : List X) (k : ℕ) (d : X) → suc k ≤ length xs → last_or (take (suc k) xs) d ≡ get_or xs k d
last-read [] k d few = absurd (omega (arith, few))
last-read (x ∷ xs) zero d few = refl
last-read (x ∷ []) (suc k) d few = absurd (omega (arith, few))
last-read (x ∷ y ∷ xs) (suc k) d few = last-read (y ∷ xs) k d (omega (arith, few))

-- an element that is there is read with any default, and written where it is
get-any : {X : Type 0} (xs : List X) (i : ℕ) (d e : X) → i < length xs → get_or xs i d ≡ get_or xs i e
get-any [] i d e few = absurd (omega (arith, few))
get-any (x ∷ xs) zero d e few = refl
get-any (x ∷ xs) (suc i) d e few = get-any xs i d e (omega (arith, few))

set-own : {X : Type 0} (xs : List X) (i : ℕ) (x d : X) → x ≡ get_or xs i d → slice_set xs i x ≡ xs
set-own [] i x d e = refl
set-own (y ∷ xs) zero x d e = ap (λ z. z ∷ xs) e
set-own (y ∷ xs) (suc i) x d e = ap (λ zs. y ∷ zs) (set-own xs i x d e)

pub swap-is : {X : Type 0} (xs : List X) (k i : ℕ) (x d : X) → k < length xs → i < length xs → x ≡ get_or xs i d → swap xs k i ≡ slice_set (slice_set xs k x) i (get_or xs k d)
swap-is [] k i x d low few e = absurd (omega (arith, few))
swap-is (y ∷ ys) k i x d low few e =
    let xs : List _ = y ∷ ys in
    let a : get_or xs i y ≡ x = get-any xs i y d few ∙ sym e in let b : get_or xs k y ≡ get_or xs k d = get-any xs k y d low in
    λ t. slice_set (slice_set xs k (a t)) i (b t)

split : (k n : ℕ) → (k < n) ⊎ (n ≤ k)
split k n = grind arith

module _ {X : Type 0} (same : X → X → Bool) where
  -- of the first `i` of `xs` those that are kept are the first `k` of `ys`; the others are as they were
  abbrev pub MovesDistinct : (xs : List X) (i k : ℕ) (ys : List X) → Type 0
  MovesDistinct xs i k ys =
      (take k ys ≡ dedup same (take i xs)) × (drop i ys ≡ drop i xs) × (0 < k) × (k ≤ i) × (length ys ≡ length xs)

  pub distinct-first : (xs : List X) → 1 < length xs → MovesDistinct xs 1 1 xs
  distinct-first [] some = absurd (omega (arith, some))
  distinct-first (x ∷ xs) some = (refl, refl, omega arith, omega arith, refl)

  module _ (xs ys : List X) (i k : ℕ) (m : MovesDistinct xs i k ys) (few : i < length xs) (x l d : X) (here : x ≡ get_or ys i d) (last : l ≡ get_or ys (k - 1) l) where
    there : get_or xs i d ≡ x
    there =
        ap (λ zs. get_or zs 0 d) (sym (drop_more xs i d few) ∙ sym m.1 ∙ drop_more ys i d (omega (arith, few, m.4))) ∙ sym here

    kept-last : last_or (dedup same (take i xs)) d ≡ l
    kept-last =
        let next : suc (k - 1) ≡ k = omega (arith, m.2) in
        ap (λ zs. last_or zs d) (sym m.0) ∙ ap (λ n. last_or (take n ys) d) (sym next) ∙ last-read ys (k - 1) d (omega (arith, few, m.2, m.3, m.4)) ∙ get-any ys (k - 1) d l (omega (arith, few, m.2, m.3, m.4)) ∙ sym last

    next : dedup same (take (i + 1) xs) ≡ cond (same x l) (dedup same (take i xs)) (dedup same (take i xs) ++ x ∷ [])
    next =
        ap (dedup same) (take_more xs i d few ∙ ap (λ y. take i xs ++ y ∷ []) there)
        ∙ more same (take i xs) x d (omega (arith, few, m.2, m.3, length-take-le i xs (omega (arith, few))))
        ∙ ap (λ y. cond (same x y) (dedup same (take i xs)) (dedup same (take i xs) ++ x ∷ [])) kept-last

    -- the next one is a repeat, or is swapped to the end of those kept
    pub repeat-passed : same x l ≡ true → MovesDistinct xs (i + 1) k ys
    repeat-passed e = (
      m.0 ∙ sym (next ∙ ap (λ b. cond b (dedup same (take i xs)) (dedup same (take i xs) ++ x ∷ [])) e),
      drop_more_same ys xs i m.1,
      m.2,
      omega (arith, m.3),
      m.4,
    )

    pub distinct-kept : same x l ≡ false → MovesDistinct xs (i + 1) (k + 1) (slice_set (slice_set ys k x) i (get_or ys k d))
    distinct-kept e =
        let zs : List X = slice_set ys k x in let v : X = get_or ys k d in
        let room : k < length ys = omega (arith, few, m.3, m.4) in
        let cut : take (k + 1) (slice_set zs i v) ≡ take (k + 1) zs =
        elim (split k i) [
          | inl low ↦ take-set-le (k + 1) zs i v (omega (arith, low))
          | inr high ↦
              let at : i ≡ k = omega (arith, high, m.3) in
              let own : zs ≡ ys = set-own ys k x d (here ∙ ap (λ j. get_or ys j d) at) in
              ap (take (k + 1)) (set-own zs i v d (sym (ap (λ ws. get_or ws i d) own ∙ ap (λ j. get_or ys j d) at)))
        ] in (
          cut ∙ take-push ys k x room ∙ ap (λ ws. ws ++ x ∷ []) m.0 ∙ sym (next ∙ ap (λ b. cond b (dedup same (take i xs)) (dedup same (take i xs) ++ x ∷ [])) e),
          drop-set-lt (i + 1) zs i v (omega arith) ∙ drop-set-lt (i + 1) ys k x (omega (arith, m.3)) ∙ drop_more_same ys xs i m.1,
          omega arith,
          omega (arith, m.3),
          length-set zs i v ∙ length-set ys k x ∙ m.4,
        )
