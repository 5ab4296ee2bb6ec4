-- The list of free slots, as one is written.
use Rattle.aa_slots.proofs.Common.{Free, IsChain, List, Some, State, [], ap, arith, cases_eq, false, get_or, inl, inr, is_held, length, refl, slice_get, slice_set, state_at, suc, sym, true, zero, ℕ, ◌-◌, ◌<◌, ◌∙◌, ◌∷◌, ◌≡◌, ◌≢◌}
use Rattle.aa_slots.specs.Inside.{AreLinked}
use Rattle.std.proofs.lemmas.Bool.Decides.{nat_tests}
use Rattle.std.specs.List.{AllByRecursion, IsDistinct}
use Rattle.std.specs.Prelude.{nat_eq}

module _ {X : Type 0} where
  pub get-set_same : (xs : List X) (i : ℕ) (y : X) → i < length xs → slice_get (slice_set xs i y) i ≡ Some y
  get-set_same [] i y l = absurd (omega (arith, l))
  get-set_same (x ∷ xs) zero y l = refl
  get-set_same (x ∷ xs) (suc i) y l = get-set_same xs i y (omega (arith, l))

  pub get-set_other : (xs : List X) (i j : ℕ) (y : X) → j ≢ i → slice_get (slice_set xs i y) j ≡ slice_get xs j
  get-set_other [] i j y h = refl
  get-set_other (x ∷ xs) zero zero y h = absurd (h refl)
  get-set_other (x ∷ xs) zero (suc j) y h = refl
  get-set_other (x ∷ xs) (suc i) zero y h = refl
  get-set_other (x ∷ xs) (suc i) (suc j) y h = get-set_other xs i j y (λ e. h (omega arith))

  pub get-past : (xs : List X) (i : ℕ) (x : X) → slice_get xs i ≡ Some x → i < length xs
  get-past [] i x h = absurd (cc)
  get-past (y ∷ xs) zero x h = omega arith
  get-past (y ∷ xs) (suc i) x h = omega (arith, get-past xs i x h)

  pub got : (xs : List X) (i : ℕ) (x d : X) → slice_get xs i ≡ Some x → get_or xs i d ≡ x
  got [] i x d h = absurd (cc)
  got (y ∷ xs) zero x d h = let e : y ≡ x = cc in e
  got (y ∷ xs) (suc i) x d h = got xs i x d h

-- distinct numbers, the first and the others
no-numbers : IsDistinct nat_eq []
unfolding IsDistinct
no-numbers = tt

apart : (i : ℕ) (is : List ℕ) → IsDistinct nat_eq (i ∷ is)
    → AllByRecursion (λ j. nat_eq i j ≡ false) is × IsDistinct nat_eq is
unfolding IsDistinct
apart i is d = d

pub one-more : (i : ℕ) (is : List ℕ) → AllByRecursion (λ j. nat_eq i j ≡ false) is
    → IsDistinct nat_eq is → IsDistinct nat_eq (i ∷ is)
unfolding IsDistinct
one-more i is a d = (a, d)

-- no free slots
pub chain-none : (ss : List State) (first n : ℕ) → n ≡ 0 → IsChain ss first n
chain-none ss first n none = record { slots = []; count = sym none; distinct = no-numbers; linked = tt }

-- free slots are linked wherever another one is written
pub linked-set : (ss : List State) (i : ℕ) (s : State) (first : ℕ) (is : List ℕ)
    → AllByRecursion (λ j. nat_eq i j ≡ false) is
    → AreLinked ss first is → AreLinked (slice_set ss i s) first is
linked-set ss i s first [] a l = tt
linked-set ss i s first (j ∷ is) a l =
    let other : j ≢ i = λ e. absurd (grind (arith, nat_tests, a.0, e)) in
    (l.0, l.1, get-set_other ss i j s other ∙ l.2, linked-set ss i s l.1 is a.1 l.3)

-- a slot with a value is none of them
pub held-apart : (ss : List State) (i : ℕ) → is_held (state_at ss i) ≡ true → (first : ℕ) (is : List ℕ)
    → AreLinked ss first is → AllByRecursion (λ j. nat_eq i j ≡ false) is
held-apart ss i h first [] l = tt
held-apart ss i h first (j ∷ is) l = (
  elim (cases_eq j i) [
    | inl e ↦ absurd (
        let free = ap is_held (got ss j (Free l.1) (Free 0) l.2) in
        let both : true ≡ false = sym h ∙ rw e at free in cc)
    | inr n ↦ grind (arith, nat_tests, n)
  ],
  held-apart ss i h l.1 is l.3,
)

-- the first of the chain
first-slot : (ss : List State) (first n : ℕ) → 0 < n → (is : List ℕ) → length is ≡ n → AreLinked ss first is
    → (next : ℕ) × (slice_get ss first ≡ Some (Free next))
first-slot ss first n some [] long l = absurd (omega (arith, some, long))
first-slot ss first n some (i ∷ is) long l = (l.1, rw l.0 at l.2)

pub chain-first : (ss : List State) (first n : ℕ) → 0 < n → IsChain ss first n
    → (next : ℕ) × (slice_get ss first ≡ Some (Free next))
chain-first ss first n some c = first-slot ss first n some c.slots c.count c.linked

-- and the chain once it is written
pub first-of : (ss : List State) (first n : ℕ) (old : State) (next : ℕ) (s : State) → 0 < n → (is : List ℕ)
    → length is ≡ n → IsDistinct nat_eq is → AreLinked ss first is → old ≡ get_or ss first old → old ≡ Free next
    → (slice_get ss first ≡ Some (Free next)) × IsChain (slice_set ss first s) next (n - 1)
first-of ss first n old next s h [] long d l r e = absurd (omega (arith, h, long))
first-of ss first n old next s h (i ∷ is) long d l r e =
    let at : slice_get ss first ≡ Some (Free l.1) = rw l.0 at l.2 in
    let p : Free l.1 ≡ Free next = sym (r ∙ got ss first (Free l.1) old at) ∙ e in
    let a : l.1 ≡ next = grind (arith, p) in
    let others = apart i is d in (
      rw a at at,
      record {
        slots = is;
        count = omega (arith, long);
        distinct = others.1;
        linked = linked-set ss first s next is (rw l.0 at others.0) (rw a at l.3);
      },
    )
