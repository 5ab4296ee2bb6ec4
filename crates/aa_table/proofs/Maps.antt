-- The entries in places as a map: the effect of filling or emptying a place, and of moving entries.
use Rattle.std.proofs.Common.{All, Bool, inl, inr, List, None, Option, Some, [], ap, arith, cond, eqb, get_or, length, refl, set, suc, subst, sym, true, zero, ℕ, ◌+◌, ◌<◌, ◌∙◌, ◌∷◌, ◌≡◌, ◌≢◌, ◌≤◌}
use Rattle.std.specs.Prelude.{IsPermutation}
use Rattle.std.specs.Cmp.{IsEquivalence}
use Rattle.std.specs.Map.{lookup}
use Rattle.std.proofs.lemmas.List.Elements.{All-nil, All-cons, All-head, All-tail}
use Rattle.std.proofs.lemmas.List.Sorted.{IsPermutation-refl, IsPermutation-trans, IsPermutation-cons, IsPermutation-middle, IsPermutation-sym, All-permutation, length_permutation, sum_by-IsPermutation}
use Rattle.std.proofs.lemmas.List.Sums.{sum_by-cons}
use Rattle.std.proofs.lemmas.Bool.{cases_Bool}
use Rattle.allocator_api2.specs.Places.{somes}
use Rattle.aa_table.specs.Contents.{value, keys_like, keys_with, IsMap, Sets}

module _ {X : Type 0} where
  -- two before the others change places
  pub swapped : (x y : X) (xs : List X) → IsPermutation (x ∷ y ∷ xs) (y ∷ x ∷ xs)
  swapped x y xs = IsPermutation-sym (y ∷ x ∷ xs) (x ∷ y ∷ xs) (IsPermutation-middle (y ∷ []) x xs)

  -- an empty place is filled
  pub filled : (cs : List (Option X)) (s : ℕ) (x : X) → s < length cs → get_or cs s None ≡ None → IsPermutation (x ∷ somes cs) (somes (set cs s (Some x)))
  filled [] s x l e = absurd (omega arith)
  filled (None ∷ cs) zero x l e = IsPermutation-refl (x ∷ somes cs)
  filled (Some y ∷ cs) zero x l e = absurd cc
  filled (None ∷ cs) (suc s) x l e = filled cs s x (omega arith) e
  filled (Some y ∷ cs) (suc s) x l e =
      IsPermutation-trans (x ∷ y ∷ somes cs) (y ∷ x ∷ somes cs) (y ∷ somes (set cs s (Some x))) (swapped x y (somes cs)) (IsPermutation-cons y (x ∷ somes cs) (somes (set cs s (Some x))) (filled cs s x (omega arith) e))

  -- a filled place is emptied
  pub emptied : (cs : List (Option X)) (s : ℕ) (x : X) → get_or cs s None ≡ Some x → IsPermutation (somes cs) (x ∷ somes (set cs s None))
  emptied [] s x e = absurd cc
  emptied (None ∷ cs) zero x e = absurd cc
  emptied (Some y ∷ cs) zero x e = subst (λ z. IsPermutation (y ∷ somes cs) (z ∷ somes cs)) (grind (arith, e)) (IsPermutation-refl (y ∷ somes cs))
  emptied (None ∷ cs) (suc s) x e = emptied cs s x e
  emptied (Some y ∷ cs) (suc s) x e =
      IsPermutation-trans (y ∷ somes cs) (y ∷ x ∷ somes (set cs s None)) (x ∷ y ∷ somes (set cs s None)) (IsPermutation-cons y (somes cs) (x ∷ somes (set cs s None)) (emptied cs s x e)) (swapped y x (somes (set cs s None)))

module _ {K V : Type 0} (test : K → Bool) where
  pub with-cons : (e : K × V) (es : List (K × V)) → keys_with test (e ∷ es) ≡ cond (test e.0) 1 0 + keys_with test es
  with-cons e es = sum_by-cons (λ (e : K × V). cond (test e.0) 1 0) e es

  -- where no key passes, none has a value
  pub with-none : (es : List (K × V)) → keys_with test es ≡ 0 → lookup test es ≡ None
  with-none [] n = refl
  with-none (e ∷ es) n = grind (arith, with-none es, with-cons e es)

module _ {K V : Type 0} (eq : K → K → Bool) where
  -- an entry with the key has this value
  abbrev Has : K → Option V → K × V → Type 0
  Has q o e = eq q e.0 ≡ true → Some e.1 ≡ o

  pub keys-cons : (q : K) (e : K × V) (es : List (K × V)) → keys_like eq q (e ∷ es) ≡ cond (eq q e.0) 1 0 + keys_like eq q es
  keys-cons q e es = with-cons (eq q) e es

  none-has : (q : K) (o : Option V) (es : List (K × V)) → keys_like eq q es ≡ 0 → All (Has q o) es
  none-has q o [] n = All-nil (Has q _)
  none-has q o (e ∷ es) n = All-cons (Has q _) e es (λ t. absurd (grind (arith, keys-cons q e es))) (none-has q o es (omega (arith, keys-cons q e es)))

  pub value-none : (q : K) (es : List (K × V)) → keys_like eq q es ≡ 0 → value eq es q ≡ None
  value-none q es n = with-none (eq q) es n

  -- each entry with a key that is there once has its value
  once-has : (q : K) (es : List (K × V)) → keys_like eq q es ≤ 1 → All (Has q (value eq es q)) es
  once-has q [] n = All-nil (Has q _)
  once-has q (e ∷ es) n = elim (cases_Bool (eq q e.0)) [
    | inl t ↦
        let first : value eq (e ∷ es) q ≡ Some e.1 = grind arith in
        All-cons (Has q _) e es (λ u. sym first) (none-has q (value eq (e ∷ es) q) es (grind (arith, n, t, keys-cons q e es)))
    | inr f ↦
        let later : value eq (e ∷ es) q ≡ value eq es q = grind arith in
        All-cons (Has q _) e es (λ u. absurd (grind arith)) (subst (λ o. All (Has q o) es) (sym later) (once-has q es (omega (arith, n, keys-cons q e es))))
  ]

  has-value : (q : K) (o : Option V) (es : List (K × V)) → All (Has q o) es → keys_like eq q es ≢ 0 → value eq es q ≡ o
  has-value q o [] h n = absurd (n refl)
  has-value q o (e ∷ es) h n = elim (cases_Bool (eq q e.0)) [
    | inl t ↦ let first : value eq (e ∷ es) q ≡ Some e.1 = grind arith in first ∙ All-head (Has q o) e es h t
    | inr f ↦
        let later : value eq (e ∷ es) q ≡ value eq es q = grind arith in
        later ∙ has-value q o es (All-tail (Has q o) e es h) (λ z. n (grind (arith, keys-cons q e es)))
  ]

  pub keys-permuted : (xs ys : List (K × V)) → IsPermutation xs ys → (q : K) → keys_like eq q ys ≡ keys_like eq q xs
  keys-permuted xs ys p q = sum_by-IsPermutation (λ (e : K × V). cond (eq q e.0) 1 0) xs ys p

  -- each key has what it had where entries change places
  pub value-permuted : (xs ys : List (K × V)) → IsPermutation xs ys → (q : K) → keys_like eq q xs ≤ 1 → value eq ys q ≡ value eq xs q
  value-permuted xs ys p q n = elim (cases_Bool (eqb (keys_like eq q ys) 0)) [
    | inl z ↦
        let none : keys_like eq q ys ≡ 0 = grind (arith, z) in
        value-none q ys none ∙ sym (value-none q xs (sym (keys-permuted xs ys p q) ∙ none))
    | inr z ↦ has-value q (value eq xs q) ys (All-permutation (Has q (value eq xs q)) xs ys p (once-has q xs n)) (λ e. absurd (grind (arith, z, e)))
  ]

  pub map-permuted : (xs ys : List (K × V)) → IsPermutation xs ys → IsMap eq xs → IsMap eq ys
  map-permuted xs ys p m q = rw (keys-permuted xs ys p q) (m q)

  module _ (E : IsEquivalence eq) where
    pub alike-keys : (q k : K) (es : List (K × V)) → eq q k ≡ true → keys_like eq q es ≡ keys_like eq k es
    alike-keys q k [] e = refl
    alike-keys q k (x ∷ es) e = grind (arith, E.congr, alike-keys q k es e, keys-cons q x es, keys-cons k x es)

    -- a new key with its value before the others
    pub sets-new : (k : K) (v : V) (es new : List (K × V)) → IsPermutation ((k, v) ∷ es) new → keys_like eq k es ≡ 0 → IsMap eq es → Sets eq es k (Some v) new
    sets-new k v es new p n m q =
        let one : keys_like eq q ((k, v) ∷ es) ≤ 1 = elim (cases_Bool (eq q k)) [ inl t ↦ grind (arith, keys-cons q (k, v) es, alike-keys q k es t) | inr f ↦ grind (arith, keys-cons q (k, v) es, m q) ] in
        value-permuted ((k, v) ∷ es) new p q one ∙ grind arith

    pub map-new : (k : K) (v : V) (es new : List (K × V)) → IsPermutation ((k, v) ∷ es) new → keys_like eq k es ≡ 0 → IsMap eq es → IsMap eq new
    map-new k v es new p n m = map-permuted ((k, v) ∷ es) new p (λ q. elim (cases_Bool (eq q k)) [ inl t ↦ grind (arith, keys-cons q (k, v) es, alike-keys q k es t) | inr f ↦ grind (arith, keys-cons q (k, v) es, m q) ])

    -- a key is removed
    pub map-gone : (e : K × V) (es new : List (K × V)) → IsPermutation es (e ∷ new) → IsMap eq es → IsMap eq new
    map-gone e es new p m q = omega (arith, map-permuted es (e ∷ new) p m q, keys-cons q e new)

    pub gone : (k : K) (e : K × V) (es new : List (K × V)) → IsPermutation es (e ∷ new) → eq k e.0 ≡ true → IsMap eq es → keys_like eq k new ≡ 0
    gone k e es new p t m = grind (arith, map-permuted es (e ∷ new) p m k, keys-cons k e new)

    pub sets-gone : (k : K) (e : K × V) (es new : List (K × V)) → IsPermutation es (e ∷ new) → eq k e.0 ≡ true → IsMap eq es → Sets eq es k None new
    sets-gone k e es new p t m q =
        let before : value eq (e ∷ new) q ≡ value eq es q = value-permuted es (e ∷ new) p q (m q) in
        elim (cases_Bool (eq q k)) [
          | inl u ↦ rw u (value-none q new (alike-keys q k new u ∙ gone k e es new p t m))
          | inr f ↦ rw (f, ← before) (grind (arith, E.congr, E.symm))
        ]

    pub value-gone : (k : K) (e : K × V) (es new : List (K × V)) → IsPermutation es (e ∷ new) → eq k e.0 ≡ true → IsMap eq es → value eq es k ≡ Some e.1
    value-gone k e es new p t m = sym (value-permuted es (e ∷ new) p k (m k)) ∙ grind arith

    -- a key that is not there is not there without it
    pub sets-none : (k : K) (es : List (K × V)) → keys_like eq k es ≡ 0 → Sets eq es k None es
    sets-none k es n q = elim (cases_Bool (eq q k)) [
      | inl t ↦ rw t (value-none q es (alike-keys q k es t ∙ n))
      | inr f ↦ rw f refl
    ]

no-items : {X : Type 0} (ys : List X) → length ys ≡ 0 → ys ≡ []
no-items [] e = refl
no-items (y ∷ ys) e = absurd (omega (arith, e))

-- what has the elements of an empty list is empty
pub none_permuted : {X : Type 0} (xs ys : List X) → IsPermutation xs ys → xs ≡ [] → ys ≡ []
none_permuted xs ys p e = no-items ys (length_permutation xs ys p ∙ ap length e)
