-- The lower bounds that an iterator returned, put together.
use Rattle.aa_vec.proofs.Common.{◌≡◌, ℕ, ◌<◌, ◌≤◌, List, [], ◌∷◌, ◌++◌, length, Option, Some, refl, sym, ◌∙◌, subst, arith, length-append, if◌then◌else◌, ◌==◌, Count, IsFinite, Yields, count_of, LowerAtMost, YieldsWithLower, nat_tests}

-- a lower bound of what remains is 0 where nothing does
pub zero_at_end : {S : Type 0} (remaining : S → Count) (s : S) (n : ℕ) → IsFinite (remaining s)
    → count_of (remaining s) ≡ 0 → LowerAtMost remaining s n → n ≡ 0
zero_at_end remaining s n ends none tells = omega (arith, tells ends, none)

module _ {S T : Type 0} (steps : S → Option T → S → Type 0) (LowerIs : S → ℕ → Type 0) where
  retell : (lower lower' : ℕ → ℕ) (s : S) (xs : List T) (t : S)
      → ((k : ℕ) → k ≤ length xs → lower k ≡ lower' k) → YieldsWithLower steps LowerIs lower s xs t
      → YieldsWithLower steps LowerIs lower' s xs t
  retell lower lower' s [] t same y = (subst (LowerIs s) (same 0 (omega arith)) y.0, y.1)
  retell lower lower' s (x ∷ xs) t same y = (
    subst (LowerIs s) (same (length (x ∷ xs)) (omega arith)) y.0,
    y.1,
    y.2,
    retell lower lower' y.1 xs t (λ k l. same k (omega (arith, l))) y.3,
  )

  -- x came before the items with these bounds, and the bound before it was n
  pub bound_next : (lower : ℕ → ℕ) (s : S) (x : T) (j : S) (xs : List T) (t : S)
      → steps s (Some x) j → YieldsWithLower steps LowerIs lower j xs t → (n : ℕ) → LowerIs s n
      → (low : ℕ → ℕ) × ((k : ℕ) → k < length (x ∷ xs) → lower k ≡ low k)
      × (low (length (x ∷ xs)) ≡ n) × YieldsWithLower steps LowerIs low s (x ∷ xs) t
  bound_next lower s x j xs t step y n h =
      let m : ℕ = length (x ∷ xs) in
      let low : ℕ → ℕ = λ k. if k == m then n else lower k in
      let same : (k : ℕ) → k < m → lower k ≡ low k = λ k l. grind (arith, nat_tests, l) in
      let now : low m ≡ n = grind (arith, nat_tests) in (
        low,
        same,
        now,
        (
          subst (LowerIs s) (sym now) h,
          j,
          step,
          retell lower low j xs t (λ k l. same k (omega (arith, l))) y,
        ),
      )

  -- the first bound is n
  pub bound_first : (lower : ℕ → ℕ) (s : S) (xs : List T) (t : S)
      → YieldsWithLower steps LowerIs lower s xs t → (n : ℕ) → LowerIs s n → (low : ℕ → ℕ)
      × ((k : ℕ) → k < length xs → lower k ≡ low k) × (low (length xs) ≡ n)
      × YieldsWithLower steps LowerIs low s xs t
  bound_first lower s [] t y n h = (λ _. n, λ k l. absurd (omega (arith, l)), refl, (h, y.1))
  bound_first lower s (x ∷ xs) t y n h = bound_next lower s x y.1 xs t y.2 y.3 n h

  -- in each state there is some bound
  module _ (tell : (s : S) → (n : ℕ) × LowerIs s n) where
    pub tells_each : (s : S) (xs : List T) (t : S) → Yields steps s xs t → (lower : ℕ → ℕ)
        × YieldsWithLower steps LowerIs lower s xs t
    tells_each s [] t y = (λ _. (tell s).0, ((tell s).1, y))
    tells_each s (x ∷ xs) t y =
        let r = tells_each y.0 xs t y.2 in
        let f = bound_next r.0 s x y.0 xs t y.1 r.1 (tell s).0 (tell s).1 in
        (f.0, f.3)

    -- xs came before the items with these bounds, and the bound between is n
    pub tell_between : (s : S) (xs : List T) (t : S) → Yields steps s xs t → (n : ℕ) → LowerIs t n
        → (lower : ℕ → ℕ) (ys : List T) (u : S) → YieldsWithLower steps LowerIs lower t ys u
        → (low : ℕ → ℕ) × ((k : ℕ) → k < length ys → lower k ≡ low k) × (low (length ys) ≡ n)
        × YieldsWithLower steps LowerIs low s (xs ++ ys) u
    tell_between s [] t y n h lower ys u z = rw y (bound_first lower t ys u z n h)
    tell_between s (x ∷ xs) t y n h lower ys u z =
        let r = tell_between y.0 xs t y.2 n h lower ys u z in
        let f = bound_next r.0 s x y.0 (xs ++ ys) u y.1 r.3 (tell s).0 (tell s).1 in (
          f.0,
          λ k l. r.1 k l ∙ f.1 k (omega (arith, l, length-append xs ys)),
          sym (f.1 (length ys) (omega (arith, length-append xs ys))) ∙ r.2,
          f.3,
        )
