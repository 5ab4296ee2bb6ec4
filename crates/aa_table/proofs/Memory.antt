-- How many slots and places a table has.
use Rattle.std.proofs.Common.{Bool, List, None, Option, arith, false, ap, inl, inr, length, refl, replicate, subst, suc, sym, true, ℕ, ◌<◌, ◌∙◌, ◌≡◌}
use Rattle.std.specs.Int.{IsNextPowerOfTwo, div_ceil}
use Rattle.std.specs.Prelude.{max, ◌*◌, ◌-◌, ◌/◌, ◌==◌, ◌^◌, ◌≤◌, if◌then◌else◌}
use Rattle.std.proofs.Math.Nat.{pow-succ'}
use Rattle.std.proofs.Math.Pow.{pow_mono}
use Rattle.std.proofs.lemmas.Bool.{cases_lt}
use Rattle.std.proofs.lemmas.Nat.{pow_pos}
use Rattle.std.proofs.lemmas.List.{length-replicate}
use Rattle.allocator_api2.specs.Growth.{usize_max}
use Rattle.allocator_api2.specs.Places.{empty_places, zst_places}
use Rattle.aa_table.specs.Shrinking.{CountsShrink, SameSlots}
use Rattle.aa_table.specs.Slots.{HasPlaces, IsMemory, IsSlotCount}

length-endless : (X : Type 0) → length (zst_places {X = X}) ≡ usize_max
unfolding zst_places
length-endless X = length-replicate {A = Option X} usize_max None

chosen : (X : Type 0) (t : Bool) (n : ℕ) → HasPlaces n (length (if t then zst_places {X = X} else replicate n None))
chosen X true n = inr (omega (arith, length-endless X))
chosen X false n = inl (length-replicate {A = Option X} n None)

-- so many empty places of one size
pub has-places : {X : Type 0} (size n : ℕ) (cs : List (Option X)) → cs ≡ empty_places size n → HasPlaces n (length cs)
has-places {X} size n cs e = subst (λ ds. HasPlaces n (length ds)) (sym e) (chosen X (size == 0) n)

-- a table without slots
pub of-none : (places : ℕ) → HasPlaces 0 places → IsMemory 0 0 places
of-none places p = record { none = λ _. refl; some = λ l. absurd (omega arith); enough = p }

-- a table with slots
pub of-count : (capacity slots places : ℕ) → IsSlotCount capacity slots → HasPlaces slots places → 0 < capacity → IsMemory capacity slots places
of-count capacity slots places s p l = record { none = λ z. absurd (omega arith); some = λ _. s; enough = p }

-- the next power of two is one alone
apart : (n i j : ℕ) → i < j → n ≤ 2 ^ i → 2 ^ j / 2 < max 1 n → ⊥
apart n i j l most less =
    let twice : 2 ^ suc i ≡ 2 * 2 ^ i = pow-succ' 2 i in
    omega (arith, twice, pow_pos i, pow_mono {i = suc i} {j = j} l, most, less)

one-power : (n p q : ℕ) → IsNextPowerOfTwo n p → IsNextPowerOfTwo n q → p ≡ q
one-power n p q a b = elim (cases_lt a.0.0 b.0.0) [
  | inl l ↦ absurd (apart n a.0.0 b.0.0 l (subst (λ x. n ≤ x) a.0.1 a.1) (subst (λ x. x / 2 < max 1 n) b.0.1 b.2))
  | inr m ↦ elim (cases_lt b.0.0 a.0.0) [
    | inl l ↦ absurd (apart n b.0.0 a.0.0 l (subst (λ x. n ≤ x) b.0.1 b.1) (subst (λ x. x / 2 < max 1 n) a.0.1 a.2))
    | inr k ↦ let same : a.0.0 ≡ b.0.0 = omega (arith, m, k) in a.0.1 ∙ ap (λ e. 2 ^ e) same ∙ sym b.0.1
  ]
]

-- a capacity has one number of slots
pub one-count : (capacity slots others : ℕ) → IsSlotCount capacity slots → IsSlotCount capacity others → slots ≡ others
one-count capacity slots others a b =
    let p : IsNextPowerOfTwo (div_ceil capacity 14) (slots / 16 - 1) = a.1 in
    let q : IsNextPowerOfTwo (div_ceil capacity 14) (others / 16 - 1) = b.1 in
    let some : 0 < slots / 16 - 1 = subst (λ x. 0 < x) (sym p.0.1) (pow_pos p.0.0) in
    omega (arith, a.0, b.0, some, one-power (div_ceil capacity 14) (slots / 16 - 1) (others / 16 - 1) p q)

-- the number of slots is that of the capacity
pub shrunk : (before after slots old new : ℕ) → IsSlotCount before slots → CountsShrink (IsSlotCount after slots) after old new → CountsShrink (SameSlots before after) after old new
shrunk before after slots old new some a = record {
  freed = a.freed;
  same = λ x. a.same (subst (λ n. IsSlotCount after n) (one-count before x.0 slots x.1 some) x.2);
  moved = λ l n. a.moved l (λ y. n (slots, some, y));
}

pub not-shrunk : (capacity slots n : ℕ) → (0 < capacity → IsSlotCount capacity slots) → CountsShrink (SameSlots capacity capacity) capacity n n
not-shrunk capacity slots n some = record { freed = λ _. refl; same = λ _. refl; moved = λ l other. absurd (other (slots, some l, some l)) }
