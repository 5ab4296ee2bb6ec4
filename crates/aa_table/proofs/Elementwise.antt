-- Elements that are inserted one by one into a set, replaced, or cloned.
use Rattle.std.proofs.Common.{Bool, List, [], ap, append-nil, arith, cond, false, inl, inr, length, refl, subst, sym, true, ℕ, ◌-◌, ◌++◌, ◌<◌, ◌∙◌, ◌∷◌, ◌≡◌}
use Rattle.std.specs.Prelude.{IsPermutation, is_some, map, nat_le, not, reverse, ◌||◌, if◌then◌else◌}
use Rattle.std.specs.Cmp.{IsEquivalence}
use Rattle.std.specs.List.{AllZip, fold}
use Rattle.std.specs.Map.{set_key}
use Rattle.std.specs.Set.{is_member, swap_key, IsUnion}
use Rattle.std.proofs.lemmas.Bool.{cases_Bool}
use Rattle.std.proofs.lemmas.Bool.Decides.{nat_tests}
use Rattle.std.proofs.lemmas.List.Folds.{list_any-append}
use Rattle.std.proofs.lemmas.List.Sorted.{IsPermutation-cons, IsPermutation-map, IsPermutation-refl, IsPermutation-reverse, IsPermutation-trans, length_permutation, list_any-IsPermutation}
use Rattle.std.proofs.lemmas.List.Sums.{fold-append}
use Rattle.aa_table.specs.Contents.{value, GrowsInTurn, SetsAll}
use Rattle.aa_table.specs.SetContents.{no_elements, set_capacity_for, set_resizes_for, with_element, HasElements, InsertsElements, SetHasRoom, SetView}
use Rattle.aa_table.proofs.Extending.{grows-more, grows-none}
use Rattle.aa_table.proofs.Elements.{member}

or-false : (a : Bool) → a ≡ (a || false)
or-false true = refl
or-false false = refl

-- one more that is new, or that is there already
joined : (a b c : Bool) → (c || (a || b)) ≡ (a || (b || (c || false)))
joined true true true = refl
joined true true false = refl
joined true false true = refl
joined true false false = refl
joined false true true = refl
joined false true false = refl
joined false false true = refl
joined false false false = refl

among : (a b c : Bool) → (c ≡ true → (a || b) ≡ true) → (a || b) ≡ (a || (b || (c || false)))
among true b c h = refl
among false true c h = refl
among false false true h = h refl
among false false false h = refl

module _ {T : Type 0} (eq : T → T → Bool) where
  pub none-inserted : (es : List T) → HasElements eq es [] es
  none-inserted es = record { elements = IsPermutation-refl es; members = λ q. or-false (is_member eq es q) }

  module _ (E : IsEquivalence eq) where
    alike : (ys : List T) (q x : T) → eq q x ≡ true → is_member eq ys q ≡ is_member eq ys x
    alike [] q x e = refl
    alike (y ∷ ys) q x e = λ i. E.congr q x y e i || alike ys q x e i

    -- one more of them
    module _ (es xs mid new : List T) (x : T) (h : HasElements eq es xs mid) where
      abbrev now : List T
      now = fold (with_element eq) es xs

      same-test : is_member eq now x ≡ is_member eq mid x
      same-test = list_any-IsPermutation (eq x) now mid h.elements

      split : (q : T) → (is_member eq es q || is_member eq (xs ++ x ∷ []) q)
          ≡ (is_member eq es q || (is_member eq xs q || (eq q x || false)))
      split q = ap (λ b. is_member eq es q || b) (list_any-append (eq q) xs (x ∷ []))

      of-new : is_member eq mid x ≡ false → IsPermutation (x ∷ mid) new → HasElements eq es (xs ++ x ∷ []) new
      of-new none p =
          let more : fold (with_element eq) es (xs ++ x ∷ []) ≡ x ∷ now
          = fold-append (with_element eq) es xs (x ∷ []) ∙ ap (λ b. if b then now else x ∷ now) (same-test ∙ none) in
          record {
            elements = subst (λ zs. IsPermutation zs new) (sym more) (IsPermutation-trans (x ∷ now) (x ∷ mid) new (IsPermutation-cons x now mid h.elements) p);
            members = λ q. sym (list_any-IsPermutation (eq q) (x ∷ mid) new p) ∙ ap (λ b. eq q x || b) (h.members q)
                ∙ joined (is_member eq es q) (is_member eq xs q) (eq q x) ∙ sym (split q);
          }

      of-old : is_member eq mid x ≡ true → new ≡ mid → HasElements eq es (xs ++ x ∷ []) new
      of-old some same =
          let more : fold (with_element eq) es (xs ++ x ∷ []) ≡ now
          = fold-append (with_element eq) es xs (x ∷ []) ∙ ap (λ b. if b then now else x ∷ now) (same-test ∙ some) in
          record {
            elements = subst (λ zs. IsPermutation zs new) (sym more) (subst (IsPermutation now) (sym same) h.elements);
            members = λ q. ap (λ zs. is_member eq zs q) same ∙ h.members q
                ∙ among (is_member eq es q) (is_member eq xs q) (eq q x) (λ t. sym (h.members q) ∙ alike mid q x t ∙ some) ∙ sym (split q);
          }

      by-test : (b : Bool) → is_member eq mid x ≡ b → (not b ≡ true → IsPermutation (x ∷ mid) new) → (not b ≡ false → new ≡ mid) → HasElements eq es (xs ++ x ∷ []) new
      by-test true some more kept = of-old some (kept refl)
      by-test false none more kept = of-new none (more refl)

      pub element-more : (fresh : Bool) → fresh ≡ not (is_member eq mid x) → (fresh ≡ true → IsPermutation (x ∷ mid) new) → (fresh ≡ false → new ≡ mid)
          → HasElements eq es (xs ++ x ∷ []) new
      element-more fresh is more kept = by-test (is_member eq mid x) refl (λ t. more (is ∙ t)) (λ f. kept (is ∙ f))

    pub insert-element : {S : Type 0} (t u w : SetView T S) (xs : List T) (x : T) (fresh : Bool)
        → InsertsElements eq t xs u → fresh ≡ not (is_member eq u.elements x)
        → (fresh ≡ true → IsPermutation (x ∷ u.elements) w.elements)
        → (fresh ≡ true → w.capacity ≡ set_capacity_for u 1)
        → (fresh ≡ true → w.resizes ≡ set_resizes_for u 1)
        → (fresh ≡ false → w ≡ u) → w.builder ≡ u.builder → InsertsElements eq t (xs ++ x ∷ []) w
    insert-element t u w xs x fresh a is more made resized kept b = record {
      elements = element-more t.elements xs u.elements w.elements x a.elements fresh is more
          (λ f. ap (λ (s : SetView _ _). s.elements) (kept f));
      growth = grows-more t.capacity t.resizes u.capacity u.resizes (length u.elements)
          w.capacity w.resizes (length w.elements) a.growth (elim (cases_Bool fresh) [
            | inl h ↦ inl (
              omega (arith, length_permutation (x ∷ u.elements) w.elements (more h)),
              made h,
              resized h,
            )
            | inr f ↦ inr (
              ap (λ (s : SetView _ _). length s.elements) (kept f),
              ap (λ (s : SetView _ _). s.capacity) (kept f),
              ap (λ (s : SetView _ _). s.resizes) (kept f),
            )
          ]);
      builder = b ∙ a.builder;
    }

  pub insert-no-elements : {S : Type 0} (t : SetView T S) → InsertsElements eq t [] t
  insert-no-elements t = record {
    elements = none-inserted t.elements;
    growth = grows-none t.capacity t.resizes (length t.elements);
    builder = refl;
  }

  -- what was inserted into a set without elements and blocks was inserted into an empty one
  pub elements-fresh : {S : Type 0} (t u : SetView T S) (xs : List T) → t.elements ≡ []
      → t.capacity ≡ 0 → t.resizes ≡ 0 → InsertsElements eq t xs u
      → InsertsElements eq (no_elements u.builder) xs u
  elements-fresh t u xs none zero never a = record {
    elements = subst (λ es. HasElements eq es xs u.elements) none a.elements;
    growth = subst (λ r. GrowsInTurn 0 r u.capacity u.resizes (length u.elements)) never
        (subst (λ c. GrowsInTurn c t.resizes u.capacity u.resizes (length u.elements)) zero a.growth);
    builder = refl;
  }

-- if m elements fit, one fits and then fewer others; `fresh` tells whether it was new
pub element-room : {T S : Type 0} (u w : SetView T S) (x : T) (m n : ℕ) (fresh : Bool) → n < m → SetHasRoom u m → (fresh ≡ true → IsPermutation (x ∷ u.elements) w.elements)
    → (fresh ≡ true → w.capacity ≡ set_capacity_for u 1) → (fresh ≡ false → w ≡ u) → SetHasRoom w n
element-room u w x m n fresh fewer room more made kept = elim (cases_Bool fresh) [
  | inl t ↦
      let one : nat_le 1 (u.capacity - length u.elements) ≡ true = grind (arith, nat_tests, fewer, room) in
      let as-before : w.capacity ≡ u.capacity = grind (arith, one, made t) in
      omega (arith, fewer, room, length_permutation (x ∷ u.elements) w.elements (more t), as-before)
  | inr f ↦
      let same = kept f in
      omega (arith, fewer, room, ap (λ (s : SetView _ _). length s.elements) same, ap (λ (s : SetView _ _). s.capacity) same)
]

-- where one fits, its insertion leaves the blocks as they are
pub element-steady : {T S : Type 0} (u w : SetView T S) (m n : ℕ) (fresh : Bool) → n < m → SetHasRoom u m → (fresh ≡ true → w.capacity ≡ set_capacity_for u 1)
    → (fresh ≡ true → w.resizes ≡ set_resizes_for u 1) → (fresh ≡ false → w ≡ u) → (w.capacity ≡ u.capacity) × (w.resizes ≡ u.resizes)
element-steady u w m n fresh fewer room made resized kept = elim (cases_Bool fresh) [
  | inl t ↦
      let one : nat_le 1 (u.capacity - length u.elements) ≡ true = grind (arith, nat_tests, fewer, room) in
      (grind (arith, one, made t), grind (arith, one, resized t))
  | inr f ↦ (ap (λ (s : SetView _ _). s.capacity) (kept f), ap (λ (s : SetView _ _). s.resizes) (kept f))
]

-- the keys of a table of clones, and those of their source
module _ {T V : Type 0} where
  abbrev keys : List (T × V) → List T
  keys es = map (λ e. e.0) es

  pub first-clones : (C : T → T → Type 0) (D : V → V → Type 0) (es fs : List (T × V)) → AllZip (λ e f. C e.0 f.0 × D e.1 f.1) es fs
      → AllZip C (map (λ e. e.0) es) (map (λ e. e.0) fs)
  first-clones C D [] [] a = tt
  first-clones C D [] (f ∷ fs) a = absurd a
  first-clones C D (e ∷ es) [] a = absurd a
  first-clones C D (e ∷ es) (f ∷ fs) a = (a.0.0, first-clones C D es fs a.1)

  module _ (eq : T → T → Bool) where
    pub cloned-keys : (clones es : List (T × V)) → SetsAll eq [] clones es → IsUnion eq [] (map (λ e. e.0) clones) (map (λ e. e.0) es)
    cloned-keys clones es a q =
        sym (member (eq q) es) ∙ ap is_some (a q) ∙ ap (λ ys. is_some (value eq ys q)) (append-nil (reverse clones)) ∙ member (eq q) (reverse clones)
        ∙ sym (list_any-IsPermutation (eq q) (keys clones) (keys (reverse clones)) (IsPermutation-map (λ (e : T × V). e.0) clones (reverse clones) (IsPermutation-reverse clones)))

  -- a key in the place of another
  pub swapped-keys : (test : T → Bool) (es : List (T × V)) (k : T) → map (λ e. e.0) (set_key test es k) ≡ swap_key test (map (λ e. e.0) es) k
  swapped-keys test [] k = refl
  swapped-keys test (e ∷ es) k = by (test e.0) (swapped-keys test es k)
    where
      by : (b : Bool) → keys (set_key test es k) ≡ swap_key test (keys es) k → keys (cond b ((k, e.1) ∷ es) (e ∷ set_key test es k)) ≡ cond b (k ∷ keys es) (e.0 ∷ swap_key test (keys es) k)
      by true h = refl
      by false h = ap (λ xs. e.0 ∷ xs) h
