-- A binary search in one of two lists in line, which are sorted: in the second unless its first element is greater.
use Rattle.std.proofs.Common.{inl, inr, ◌⊎◌, ◌≡◌, ℕ, ◌+◌, ◌-◌, ◌<◌, ◌≤◌, Bool, true, false, Bor, List, [], ◌∷◌, ◌++◌, Result, Ok, Err, length, get_or, refl, sym, ap, ◌∙◌, arith, length-append}
use Rattle.std.specs.Fn.{CalledAt, ComputesKey, Mut}
use Rattle.std.specs.List.{HoldsAt}
use Rattle.std.specs.List.Sorted.{IsBinarySearchResult, IsNonDecreasingBy, IsPartitionedBy, IsPartitionPoint, IsSearchInRange}
use Rattle.std.specs.Ordering.{is_gt, ordering_index}
use Rattle.std.specs.declared.cmp.Ordering.{Ordering}
use Rattle.std.specs.declared.cmp.Ordering.TheVariants.{Less, Equal, Greater}
use Rattle.std.proofs.lemmas.List.{get_or_append_left, get_or-append_right}

top : (o : Ordering) → 2 ≤ ordering_index o → o ≡ Greater
top Less h = absurd (omega arith)
top Equal h = absurd (omega arith)
top Greater h = refl

bottom : (o : Ordering) → ordering_index o ≤ 0 → o ≡ Less
bottom Less h = refl
bottom Equal h = absurd (omega arith)
bottom Greater h = absurd (omega arith)

not_top : (o : Ordering) → ¬ (o ≡ Greater) → ordering_index o ≤ 1
not_top Less h = omega arith
not_top Equal h = omega arith
not_top Greater h = absurd (h refl)

pub split : (k n : ℕ) → (k < n) ⊎ (n ≤ k)
split k n = grind arith

module _ {X : Type 0} (ord : X → Ordering) (xs ys : List X) where
  abbrev index : X → ℕ
  index y = ordering_index (ord y)

  left : (k : ℕ) (d : X) → k < length xs → get_or (xs ++ ys) k d ≡ get_or xs k d
  left k d few = get_or_append_left xs ys d k few

  right : (k : ℕ) (d : X) → length xs ≤ k → get_or (xs ++ ys) k d ≡ get_or ys (k - length xs) d
  right k d past = get_or-append_right xs ys (length xs) k d refl past

  -- both lists are sorted if the whole is
  rises-left : IsNonDecreasingBy (λ y. ordering_index (ord y)) (xs ++ ys) → IsNonDecreasingBy (λ y. ordering_index (ord y)) xs
  rises-left up i j d a b =
      omega (arith, ap index (left i d (omega (arith, a, b))), ap index (left j d b), up i j d a (omega (arith, b, length-append xs ys)))

  rises-right : IsNonDecreasingBy (λ y. ordering_index (ord y)) (xs ++ ys) → IsNonDecreasingBy (λ y. ordering_index (ord y)) ys
  rises-right up i j d a b =
      let n : ℕ = length xs in
      let e : get_or (xs ++ ys) (n + i) d ≡ get_or ys i d = right (n + i) d (omega arith) ∙ (let z : n + i - n ≡ i = omega arith in ap (λ k. get_or ys k d) z) in
      let f : get_or (xs ++ ys) (n + j) d ≡ get_or ys j d = right (n + j) d (omega arith) ∙ (let z : n + j - n ≡ j = omega arith in ap (λ k. get_or ys k d) z) in
      omega (arith, ap index e, ap index f, up (n + i) (n + j) d (omega (arith, a)) (omega (arith, b, length-append xs ys)))

  module _ (above : (d : X) → 0 < length ys → ord (get_or ys 0 d) ≡ Greater) where
    after : (k : ℕ) (d : X) → k < length ys → IsNonDecreasingBy (λ y. ordering_index (ord y)) ys → ord (get_or ys k d) ≡ Greater
    after k d few up = top (ord (get_or ys k d)) (omega (arith, up 0 k d (omega arith) few, ap ordering_index (above d (omega (arith, few)))))

    -- what is found in the first list
    pub in-first : (r : Result ℕ ℕ) → IsSearchInRange r (length xs) → IsBinarySearchResult ord xs r → IsBinarySearchResult ord (xs ++ ys) r
    in-first (Ok i) few h = λ d. ap ord (left i d few) ∙ h d
    in-first (Err i) few h =
        λ up. let p = h (rises-left up) in (
          (λ k d a b. ap ord (left k d (omega (arith, b, few))) ∙ p.0 k d a b),
          (λ k d a b. elim (split k (length xs)) [
            | inl low ↦ ap ord (left k d low) ∙ p.1 k d a low
            | inr high ↦ ap ord (right k d high) ∙ after (k - length xs) d (omega (arith, b, high, length-append xs ys)) (rises-right up)
          ]),
        )

  module _ (some : 0 < length ys) (not_above : (d : X) → ¬ (ord (get_or ys 0 d) ≡ Greater)) where
    before : (d : X) → (0 < length ys) × (ordering_index (ord (get_or ys 0 d)) ≤ 1)
    before d = (some, not_top (ord (get_or ys 0 d)) (not_above d))

    -- and in the second
    pub found-second : (i : ℕ) → HoldsAt (λ y. ord y ≡ Equal) ys i → HoldsAt (λ y. ord y ≡ Equal) (xs ++ ys) (length xs + i)
    found-second i h = λ d. ap ord (right (length xs + i) d (omega arith) ∙ (let z : length xs + i - length xs ≡ i = omega arith in ap (λ k. get_or ys k d) z)) ∙ h d

    low : (i k : ℕ) (d : X) → IsNonDecreasingBy (λ y. ordering_index (ord y)) (xs ++ ys) → IsPartitionPoint (λ y. ord y ≡ Less) (λ y. ord y ≡ Greater) ys i → k < length xs → ord (get_or (xs ++ ys) k d) ≡ Less
    low i k d up p few =
        let n : ℕ = length xs in
        let head : get_or (xs ++ ys) n d ≡ get_or ys 0 d = right n d (omega arith) ∙ (let z : n - n ≡ 0 = omega arith in ap (λ j. get_or ys j d) z) in
        let below = up k n d (omega (arith, few)) (omega (arith, (before d).0, length-append xs ys)) in
        let first : ordering_index (ord (get_or ys 0 d)) ≤ 0 =
        elim (split 0 i) [
          | inl within ↦ omega (arith, ap ordering_index (p.0 0 d (omega arith) within))
          | inr none ↦ absurd (omega (arith, ap ordering_index (p.1 0 d (omega (arith, none)) (before d).0), (before d).1))
        ] in
        bottom (ord (get_or (xs ++ ys) k d)) (omega (arith, ap index head, below, first))

    pub none-second : (i : ℕ) → i ≤ length ys → IsBinarySearchResult ord ys (Err i) → IsBinarySearchResult ord (xs ++ ys) (Err (length xs + i))
    none-second i few h =
        λ up. let p = h (rises-right up) in (
          (λ k d a b. elim (split k (length xs)) [
            | inl first ↦ low i k d up p first
            | inr high ↦ ap ord (right k d high) ∙ p.0 (k - length xs) d (omega arith) (omega (arith, b, high))
          ]),
          (λ k d a b. ap ord (right k d (omega (arith, a))) ∙ p.1 (k - length xs) d (omega (arith, a)) (omega (arith, a, b, length-append xs ys))),
        )

-- calls of a closure that computes a function
module _ {F X K : Type 0} (g : Mut F (Bor X × Unit {0}) K) (key : X → K) (f : F) (x : X) (r : K) (f' : F) (c : CalledAt g f x r f') (h : ComputesKey g key f) where
  pub computed : r ≡ key x
  computed = (h.at ((c.shown, tt) ∷ []) r f' c.called).0 ∙ ap key c.shows

  pub computes-next : ComputesKey g key f'
  computes-next = record { at = λ xs. (h.at ((c.shown, tt) ∷ xs) r f' c.called).1 }

-- whether an order is `Greater`
pub gt_is : (o : Ordering) → is_gt o ≡ true → o ≡ Greater
gt_is Less e = cc
gt_is Equal e = cc
gt_is Greater e = refl

pub not_gt : (o : Ordering) → is_gt o ≡ false → ¬ (o ≡ Greater)
not_gt Less e f = cc
not_gt Equal e f = cc
not_gt Greater e f = cc

-- a key that a call of a closure computed, compared with `b`
module _ {F X K : Type 0} (g : Mut F (Bor X × Unit {0}) K) (key : X → K) (f : F) (x : X) (r : K) (f' : F)
    (c : CalledAt g f x r f') (h : ComputesKey g key f) (cmp : K → K → Ordering) (b : K) (o : Ordering)
    (e : o ≡ cmp r b) where
  order : cmp (key x) b ≡ o
  order = ap (λ k. cmp k b) (sym (computed g key f x r f' c h)) ∙ sym e

  pub key-above : true ≡ is_gt o → cmp (key x) b ≡ Greater
  key-above t = order ∙ gt_is o (sym t)

  pub key-not_above : false ≡ is_gt o → ¬ (cmp (key x) b ≡ Greater)
  key-not_above t gt = not_gt o (sym t) (sym order ∙ gt)

not_true : (b : Bool) → ¬ (b ≡ true) → b ≡ false
not_true true h = absurd (h refl)
not_true false h = refl

-- the end of those that pass, in one of two lists in line: in the second if its first element passes
module _ {X : Type 0} (p : X → Bool) (xs ys : List X) where
  at-left : (k : ℕ) (d : X) → k < length xs → p (get_or (xs ++ ys) k d) ≡ p (get_or xs k d)
  at-left k d few = ap p (get_or_append_left xs ys d k few)

  at-right : (k : ℕ) (d : X) → length xs ≤ k → p (get_or (xs ++ ys) k d) ≡ p (get_or ys (k - length xs) d)
  at-right k d past = ap p (get_or-append_right xs ys (length xs) k d refl past)

  at-later : (k : ℕ) (d : X) → p (get_or (xs ++ ys) (length xs + k) d) ≡ p (get_or ys k d)
  at-later k d = let z : length xs + k - length xs ≡ k = omega arith in at-right (length xs + k) d (omega arith) ∙ ap (λ i. p (get_or ys i d)) z

  parted-left : IsPartitionedBy p (xs ++ ys) → IsPartitionedBy p xs
  parted-left up i j d a b e = sym (at-left i d (omega (arith, a, b))) ∙ up i j d a (omega (arith, b, length-append xs ys)) (at-left j d b ∙ e)

  parted-right : IsPartitionedBy p (xs ++ ys) → IsPartitionedBy p ys
  parted-right up i j d a b e =
      sym (at-later i d) ∙ up (length xs + i) (length xs + j) d (omega (arith, a)) (omega (arith, b, length-append xs ys)) (at-later j d ∙ e)

  pub point-first : ((d : X) → 0 < length ys → p (get_or ys 0 d) ≡ false) → (i : ℕ) → i ≤ length xs → (IsPartitionedBy p xs → IsPartitionPoint (λ y. p y ≡ true) (λ y. p y ≡ false) xs i)
      → IsPartitionedBy p (xs ++ ys) → IsPartitionPoint (λ y. p y ≡ true) (λ y. p y ≡ false) (xs ++ ys) i
  point-first fails i few h up =
      let q = h (parted-left up) in let n : ℕ = length xs in (
        (λ k d a b. at-left k d (omega (arith, b, few)) ∙ q.0 k d a b),
        (λ k d a b. elim (split k n) [
          | inl early ↦ at-left k d early ∙ q.1 k d a early
          | inr high ↦ not_true (p (get_or (xs ++ ys) k d)) (λ passes.
              let z : n + 0 ≡ n = omega arith in
              let first : p (get_or ys 0 d) ≡ true = sym (at-later 0 d) ∙ ap (λ j. p (get_or (xs ++ ys) j d)) z ∙ up n k d high b passes in
              let other : p (get_or ys 0 d) ≡ false = fails d (omega (arith, high, b, length-append xs ys)) in cc)
        ]),
      )

  pub point-second : 0 < length ys → ((d : X) → p (get_or ys 0 d) ≡ true) → (i : ℕ) → i ≤ length ys → (IsPartitionedBy p ys → IsPartitionPoint (λ y. p y ≡ true) (λ y. p y ≡ false) ys i)
      → IsPartitionedBy p (xs ++ ys) → IsPartitionPoint (λ y. p y ≡ true) (λ y. p y ≡ false) (xs ++ ys) (length xs + i)
  point-second some passes i few h up =
      let q = h (parted-right up) in let n : ℕ = length xs in (
        (λ k d a b. elim (split k n) [
          | inl early ↦
              let z : n + 0 ≡ n = omega arith in
              up k n d (omega (arith, early)) (omega (arith, some, length-append xs ys)) (ap (λ j. p (get_or (xs ++ ys) j d)) (sym z) ∙ at-later 0 d ∙ passes d)
          | inr high ↦ at-right k d high ∙ q.0 (k - n) d (omega arith) (omega (arith, b, high))
        ]),
        (λ k d a b. at-right k d (omega (arith, a)) ∙ q.1 (k - n) d (omega (arith, a)) (omega (arith, a, b, length-append xs ys))),
      )
