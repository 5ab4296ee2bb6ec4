-- Clones that are inserted into a set, and the parts of sets that are cloned.
use Rattle.std.proofs.Common.{Bool, List, [], ap, arith, cond, false, inl, inr, length, length-append, refl, subst, suc, sym, true, true≢false, ℕ, ◌+◌, ◌-◌, ◌++◌, ◌∙◌, ◌∷◌, ◌≡◌, ◌≤◌}
use Rattle.std.specs.Prelude.{IsPermutation, filter, nat_le, not, ◌||◌, if◌then◌else◌}
use Rattle.std.specs.Cmp.{IsEquivalence}
use Rattle.std.specs.List.{AllZip, fold}
use Rattle.std.specs.Set.{is_member}
use Rattle.std.proofs.lemmas.Bool.{cases_Bool}
use Rattle.std.proofs.lemmas.Bool.Decides.{nat_tests}
use Rattle.std.proofs.lemmas.List.Folds.{list_any-append}
use Rattle.std.proofs.lemmas.List.Sorted.{IsPermutation-cons, IsPermutation-trans, length_permutation, list_any-IsPermutation}
use Rattle.std.proofs.lemmas.List.Sums.{fold-append}
use Rattle.aa_table.specs.SetContents.{set_capacity_for, set_resizes_for, with_element, HasElements, SetHasRoom, SetView}
use Rattle.aa_table.specs.Contents.{fresh_capacity, fresh_resizes, reserved_capacity, reserved_resizes}
use Rattle.aa_table.specs.SetOperators.{InsertsClones, IsSetOfClones}
use Rattle.aa_table.proofs.Maps.{none_permuted}
use Rattle.aa_table.proofs.Extending.{reserved, resized}
use Rattle.aa_table.proofs.Elementwise.{element-more, none-inserted}

pub all-of : {T : Type 0} (xs : List T) → filter (λ x. true) xs ≡ xs
all-of [] = refl
all-of (x ∷ xs) = ap (λ ys. x ∷ ys) (all-of xs)

pub none-of : {T : Type 0} (xs : List T) → filter (λ x. false) xs ≡ []
none-of [] = refl
none-of (x ∷ xs) = none-of xs

-- one element more
pub in-part : {T : Type 0} (test : T → Bool) (x : T) (xs : List T) → test x ≡ true → filter test (x ∷ xs) ≡ x ∷ filter test xs
in-part test x xs e = ap (λ b. cond b (x ∷ filter test xs) (filter test xs)) e

pub not-in-part : {T : Type 0} (test : T → Bool) (x : T) (xs : List T) → test x ≡ false → filter test (x ∷ xs) ≡ filter test xs
not-in-part test x xs e = ap (λ b. cond b (x ∷ filter test xs) (filter test xs)) e

or-grouped : (a b c : Bool) → ((a || b) || c) ≡ (a || (b || c))
or-grouped true b c = refl
or-grouped false b c = refl

both-zipped : {T : Type 0} (C : T → T → Type 0) (xs ys zs ws : List T) → AllZip C xs ys → AllZip C zs ws → AllZip C (xs ++ zs) (ys ++ ws)
both-zipped C [] [] zs ws a b = b
both-zipped C [] (y ∷ ys) zs ws a b = absurd a
both-zipped C (x ∷ xs) [] zs ws a b = absurd a
both-zipped C (x ∷ xs) (y ∷ ys) zs ws a b = (a.0, both-zipped C xs ys zs ws a.1 b)

module _ {T : Type 0} (eq : T → T → Bool) where
  permuted-more : (x : T) (es fs : List T) → IsPermutation es fs → IsPermutation (with_element eq es x) (with_element eq fs x)
  permuted-more x es fs p = by (is_member eq es x) (is_member eq fs x) (list_any-IsPermutation (eq x) es fs p)
    where
      by : (b c : Bool) → b ≡ c → IsPermutation (if b then es else x ∷ es) (if c then fs else x ∷ fs)
      by true true e = p
      by false false e = IsPermutation-cons x es fs p
      by true false e = absurd (true≢false e)
      by false true e = absurd (true≢false (sym e))

  permuted-all : (xs es fs : List T) → IsPermutation es fs → IsPermutation (fold (with_element eq) es xs) (fold (with_element eq) fs xs)
  permuted-all [] es fs p = p
  permuted-all (x ∷ xs) es fs p = permuted-all xs (with_element eq es x) (with_element eq fs x) (permuted-more x es fs p)

  both-inserted : (es xs mid ys new : List T) → HasElements eq es xs mid → HasElements eq mid ys new → HasElements eq es (xs ++ ys) new
  both-inserted es xs mid ys new a b =
      let first = fold (with_element eq) es xs in
      record {
        elements = subst (λ zs. IsPermutation zs new) (sym (fold-append (with_element eq) es xs ys))
            (IsPermutation-trans (fold (with_element eq) first ys) (fold (with_element eq) mid ys) new (permuted-all ys first mid a.elements) b.elements);
        members = λ q. b.members q ∙ ap (λ c. c || is_member eq ys q) (a.members q) ∙ or-grouped (is_member eq es q) (is_member eq xs q) (is_member eq ys q)
            ∙ ap (λ c. is_member eq es q || c) (sym (list_any-append (eq q) xs ys));
      }

  no-longer : (es : List T) (xs new : List T) → HasElements eq es xs new → length new ≤ length es + length xs
  no-longer es xs new a = omega (arith, length_permutation (fold (with_element eq) es xs) new a.elements, grown xs es)
    where
      one : (b : Bool) (x : T) (fs : List T) → length (if b then fs else x ∷ fs) ≤ length fs + 1
      one true x fs = omega arith
      one false x fs = omega arith

      grown : (ys fs : List T) → length (fold (with_element eq) fs ys) ≤ length fs + length ys
      grown [] fs = omega arith
      grown (y ∷ ys) fs = omega (arith, grown ys (with_element eq fs y), one (is_member eq fs y) y fs)

  zipped-length : (C : T → T → Type 0) (xs ys : List T) → AllZip C xs ys → length xs ≡ length ys
  zipped-length C [] [] a = refl
  zipped-length C [] (y ∷ ys) a = absurd a
  zipped-length C (x ∷ xs) [] a = absurd a
  zipped-length C (x ∷ xs) (y ∷ ys) a = ap suc (zipped-length C xs ys a.1)

  module _ (C : T → T → Type 0) {S : Type 0} where
    -- the clones of two lists, one after the other
    pub both-cloned : (s u w : SetView T S) (xs ys : List T) → InsertsClones eq C s xs u → InsertsClones eq C u ys w → InsertsClones eq C s (xs ++ ys) w
    both-cloned s u w xs ys a b = record {
      clones = a.clones ++ b.clones;
      each = both-zipped C xs a.clones ys b.clones a.each b.each;
      elements = both-inserted s.elements a.clones u.elements b.clones w.elements a.elements b.elements;
      capacity = b.capacity ∙ a.capacity;
      resizes = b.resizes ∙ a.resizes;
      builder = b.builder ∙ a.builder;
    }

    -- what fits after them
    pub still-room : (s u : SetView T S) (xs : List T) (n : ℕ) → InsertsClones eq C s xs u → SetHasRoom s (length xs + n) → SetHasRoom u n
    still-room s u xs n a room = omega (arith, room, a.capacity, no-longer s.elements a.clones u.elements a.elements, zipped-length C xs a.clones a.each)

    pub none-cloned : (s : SetView T S) → InsertsClones eq C s [] s
    none-cloned s = record {
      clones = [];
      each = tt;
      elements = none-inserted eq s.elements;
      capacity = refl;
      resizes = refl;
      builder = refl;
    }

    -- one element more
    pub one-cloned : IsEquivalence eq → (s w : SetView T S) (x y : T) (fresh : Bool) → C x y → SetHasRoom s 1 → fresh ≡ not (is_member eq s.elements y)
        → (fresh ≡ true → IsPermutation (y ∷ s.elements) w.elements) → (fresh ≡ true → w.capacity ≡ set_capacity_for s 1) → (fresh ≡ true → w.resizes ≡ set_resizes_for s 1) → (fresh ≡ false → w ≡ s) → w.builder ≡ s.builder
        → InsertsClones eq C s (x ∷ []) w
    one-cloned E s w x y fresh c room is more made resized kept b = record {
      clones = y ∷ [];
      each = (c, tt);
      elements = element-more eq E s.elements [] s.elements w.elements y
          (none-inserted eq s.elements) fresh is more
          (λ f. ap (λ (u : SetView _ _). u.elements) (kept f));
      capacity = elim (cases_Bool fresh) [
        | inl t ↦
            let one : nat_le 1 (s.capacity - length s.elements) ≡ true = grind (arith, nat_tests, room) in
            grind (arith, one, made t)
        | inr f ↦ ap (λ (u : SetView _ _). u.capacity) (kept f)
      ];
      resizes = elim (cases_Bool fresh) [
        | inl t ↦
            let one : nat_le 1 (s.capacity - length s.elements) ≡ true = grind (arith, nat_tests, room) in
            grind (arith, one, resized t)
        | inr f ↦ ap (λ (u : SetView _ _). u.resizes) (kept f)
      ];
      builder = b;
    }

    module _ (D : S → Type 0) where
      -- the clones of two lists, in a new set
      pub made-set : (none r u w : SetView T S) (xs ys : List T) (n : ℕ) → n ≡ length xs + length ys → none.elements ≡ [] → none.capacity ≡ 0 → none.resizes ≡ 0
          → IsPermutation none.elements r.elements → r.capacity ≡ set_capacity_for none n → r.resizes ≡ set_resizes_for none n → InsertsClones eq C r xs u → InsertsClones eq C u ys w → D r.builder
          → IsSetOfClones eq C D (xs ++ ys) w
      made-set none r u w xs ys n count free least first same made moved a b d =
          let all = both-cloned r u w xs ys a b in
          let new : reserved_capacity none.capacity (length none.elements) n ≡ reserved_capacity 0 0 n = λ i. reserved_capacity (least i) (length (free i)) n in
          let once : reserved_resizes none.resizes none.capacity (length none.elements) n ≡ reserved_resizes 0 0 0 n = λ i. reserved_resizes (first i) (least i) (length (free i)) n in
          record {
            clones = all.clones;
            each = all.each;
            elements = subst (λ es. HasElements eq es all.clones w.elements) (none_permuted none.elements r.elements same free) all.elements;
            capacity = all.capacity ∙ made ∙ new ∙ reserved n ∙ ap fresh_capacity (count ∙ sym (length-append xs ys));
            resizes = all.resizes ∙ moved ∙ once ∙ resized n ∙ ap fresh_resizes (count ∙ sym (length-append xs ys));
            builder = subst D (sym all.builder) d;
          }
