-- The values that keys find, and their number, when a slot is written.
use Rattle.aa_slots.proofs.Common.{KeyData, List, None, Option, Puts, Some, [], arith, cond, count, entries_from, inl, inr, is_some, length, refl, slice_set, slot_at, suc, true, value_under, with_at, zero, ℕ, ◌++◌, ◌+◌, ◌<◌, ◌∷◌, ◌≡◌, ◌≢◌, ◌≤◌}
use Rattle.aa_slots.proofs.Chains.{chain-none}
use Rattle.std.proofs.Common.{get_or-set_other}
use Rattle.std.proofs.lemmas.Bool.{cases_eq}
use Rattle.std.proofs.lemmas.Bool.Decides.{nat_tests}
use Rattle.std.proofs.lemmas.List.Sums.{sum_by-cons}

module _ {X : Type 0} where
  pub with_at-within : (xs : List X) (i : ℕ) (x : X) → i < length xs → with_at xs i x ≡ slice_set xs i x
  with_at-within [] i x h = absurd (omega arith)
  with_at-within (y ∷ xs) zero x h = refl
  with_at-within (y ∷ xs) (suc i) x h = rw (with_at-within xs i x (omega arith))

  pub with_at-after : (xs : List X) (x : X) → with_at xs (length xs) x ≡ xs ++ x ∷ []
  with_at-after [] x = refl
  with_at-after (y ∷ xs) x = rw (with_at-after xs x)

alike : (j k : KeyData) → j.index ≡ k.index → j.serial ≡ k.serial → j ≡ k
alike j k p q i = record { index = p i; serial = q i }

module _ {T : Type 0} where
  slot-with_at : (ss : List (Option (ℕ × T))) (i : ℕ) (o : Option (ℕ × T)) → i ≤ length ss → slot_at (with_at ss i o) i ≡ o
  slot-with_at [] zero o h = refl
  slot-with_at [] (suc i) o h = absurd (omega arith)
  slot-with_at (s ∷ ss) zero o h = refl
  slot-with_at (s ∷ ss) (suc i) o h = slot-with_at ss i o (omega arith)

  slot-with_at_other : (ss : List (Option (ℕ × T))) (i j : ℕ) (o : Option (ℕ × T)) → i ≤ length ss → j ≢ i → slot_at (with_at ss i o) j ≡ slot_at ss j
  slot-with_at_other [] zero zero o h n = absurd (n refl)
  slot-with_at_other [] zero (suc j) o h n = refl
  slot-with_at_other [] (suc i) j o h n = absurd (omega arith)
  slot-with_at_other (s ∷ ss) zero zero o h n = absurd (n refl)
  slot-with_at_other (s ∷ ss) zero (suc j) o h n = refl
  slot-with_at_other (s ∷ ss) (suc i) zero o h n = refl
  slot-with_at_other (s ∷ ss) (suc i) (suc j) o h n = slot-with_at_other ss i j o (omega arith) (λ e. n (omega arith))

  pub slot-freed : (ss : List (Option (ℕ × T))) (i : ℕ) → slot_at (slice_set ss i None) i ≡ None
  slot-freed [] i = refl
  slot-freed (s ∷ ss) zero = refl
  slot-freed (s ∷ ss) (suc i) = slot-freed ss i

  pub count-cons : (o : Option (ℕ × T)) (ss : List (Option (ℕ × T))) → count (o ∷ ss) ≡ cond (is_some o) 1 0 + count ss
  count-cons = sum_by-cons (λ o. cond (is_some o) 1 0)

  pub count-with_at : (ss : List (Option (ℕ × T))) (i : ℕ) (e : ℕ × T) → i ≤ length ss → slot_at ss i ≡ None → count (with_at ss i (Some e)) ≡ count ss + 1
  count-with_at [] zero e h f = refl
  count-with_at [] (suc i) e h f = absurd (omega arith)
  count-with_at (s ∷ ss) zero e h f = grind (arith, f, count-cons s ss, count-cons (Some e) ss)
  count-with_at (s ∷ ss) (suc i) e h f = omega (arith, count-with_at ss i e (omega arith) f, count-cons s ss, count-cons s (with_at ss i (Some e)))

  pub count-freed : (ss : List (Option (ℕ × T))) (i : ℕ) → is_some (slot_at ss i) ≡ true → count (slice_set ss i None) + 1 ≡ count ss
  count-freed [] i h = absurd (cc)
  count-freed (s ∷ ss) zero h = grind (arith, h, count-cons s ss, count-cons None ss)
  count-freed (s ∷ ss) (suc i) h = omega (arith, count-freed ss i h, count-cons s ss, count-cons s (slice_set ss i None))

  pub length-entries : (i : ℕ) (ss : List (Option (ℕ × T))) → length (entries_from i ss) ≡ count ss
  length-entries i [] = refl
  length-entries i (None ∷ ss) = omega (arith, length-entries (i + 1) ss, count-cons None ss)
  length-entries i (Some e ∷ ss) = omega (arith, length-entries (i + 1) ss, count-cons (Some e) ss)

  module _ (ss new : List (Option (ℕ × T))) (i serial : ℕ) (x : T) (p : Puts ss (record { index = i; serial = serial }) x new) where
    pub found-put : value_under serial (slot_at new i) ≡ Some x
    found-put = rw (p.put, slot-with_at ss i (Some (serial, x)) p.within) (grind (arith, nat_tests))

    pub others-put : (j : KeyData) → j ≢ record { index = i; serial = serial } → value_under j.serial (slot_at new j.index) ≡ value_under j.serial (slot_at ss j.index)
    others-put j n = elim (cases_eq j.index i) [
      | inl e ↦ let f : j.serial ≢ serial = λ q. n (alike j (record { index = i; serial = serial }) e q) in rw (p.put, e, slot-with_at ss i (Some (serial, x)) p.within, p.free) (grind (arith, nat_tests, f))
      | inr o ↦ rw (p.put, slot-with_at_other ss i j.index (Some (serial, x)) p.within o) refl
    ]

    pub count-put : count new ≡ count ss + 1
    count-put = rw p.put (count-with_at ss i (serial, x) p.within p.free)

  -- a slot has no value for another serial than its own
  other : (o : Option (ℕ × T)) (own serial : ℕ) (x : T) → value_under own o ≡ Some x → serial ≢ own → None ≡ value_under serial o
  other None own serial x f n = refl
  other (Some e) own serial x f n = grind (arith, nat_tests, f, n)

  module _ (ss : List (Option (ℕ × T))) (k : KeyData) where
    pub absent : value_under k.serial (slot_at (slice_set ss k.index None) k.index) ≡ None
    absent = rw (slot-freed ss k.index) refl

    pub others-freed : (x : T) → value_under k.serial (slot_at ss k.index) ≡ Some x → (j : KeyData) → j ≢ k → value_under j.serial (slot_at (slice_set ss k.index None) j.index) ≡ value_under j.serial (slot_at ss j.index)
    others-freed x f j n = elim (cases_eq j.index k.index) [
      | inl e ↦ let g : j.serial ≢ k.serial = λ q. n (alike j k e q) in rw (e, slot-freed ss k.index) (other (slot_at ss k.index) k.serial j.serial x f g)
      | inr o ↦ rw (get_or-set_other ss k.index j.index None None o) refl
    ]

pub ruleset finds = (nat_tests, chain-none, found-put, others-put, count-put, absent, others-freed, count-freed, length-entries)
