-- The slots of a map whose values are removed from either end.
use Rattle.aa_slots.proofs.Common.{AreFree, AreHeld, Held, Key, KeyData, List, None, Option, Slotted, Some, State, [], ap, arith, cases_eq, cases_lt, entries_from, inl, inr, is_some, length, length-set, refl, rest_of, seen, slice_set, slot_at, state_at, subst, sym, true, value_under, ℕ, ⊤, ◌++◌, ◌+◌, ◌-◌, ◌<◌, ◌∙◌, ◌∷◌, ◌≡◌, ◌≤◌}
use Rattle.aa_slots.proofs.Finds.{length-entries, slot-freed}
use Rattle.aa_slots.proofs.Remaining.{back-free, rest-above, rest-below, rest-free, rest-last, rest-next, rest-none, rest-whole}
use Rattle.aa_slots.proofs.Retaining.{within-slots}
use Rattle.aa_slots.proofs.Seen.{length-seen, slot-free, value-of}
use Rattle.aa_slots.specs.Absent.{AreAbsent, IsAllWithin}
use Rattle.aa_slots.specs.Draining.{drain_map, drain_remaining, drains_first, drains_last, DrainKeeps, DrainsInOrder, DrainsInReverse}
use Rattle.aa_slots.specs.Keys.{data_pair}
use Rattle.aa_slots.specs.declared.map.drain.Drain.{Drain}
use Rattle.std.proofs.Common.{get_or-set_other, min}
use Rattle.std.proofs.iter.runs.Sources.{from_back, from_front}
use Rattle.std.proofs.lemmas.Bool.Decides.{nat_tests}
use Rattle.std.proofs.lemmas.List.{get_or_past}
use Rattle.std.specs.Iterator.{Yields}

module _ {T : Type 0} where
  -- the slot of a key by its state, and free slots
  pub found-held : (ss : List State) (cs : List (Option (⊤ × T))) (k : KeyData) → AreHeld ss cs
      → state_at ss k.index ≡ Held k.serial
      → is_some (value_under k.serial (slot_at (seen ss cs) k.index)) ≡ true
  found-held ss cs k held is =
      let v = value-of ss cs held k.index k.serial is in
      let serial : v.serial ≡ k.serial = let p : Held v.serial ≡ Held k.serial = sym v.is ∙ is in cc in
      rw v.slot (grind (arith, nat_tests, serial))

  pub absent-free : (ss : List State) (cs : List (Option (⊤ × T))) (from end : ℕ)
      → AreFree ss from end → AreAbsent (seen ss cs) from end
  absent-free ss cs from end free = λ i a b. slot-free ss cs i (free i a b)

  pub absent-cut : (ss : List State) (cs : List (Option (⊤ × T))) (from end : ℕ)
      → AreFree ss from (min end (length ss)) → AreAbsent (seen ss cs) from end
  absent-cut ss cs from end free = λ i a b. elim (cases_lt i (length ss)) [
    | inl l ↦ slot-free ss cs i (free i a (grind (arith, nat_tests, b, l)))
    | inr g ↦ get_or_past (seen ss cs) i None (omega (arith, g, length-seen ss cs))
  ]

  -- where all values are
  pub within-all : (ss : List (Option (ℕ × T))) (end : ℕ) → end ≡ length ss → IsAllWithin ss 0 end
  within-all ss end e = (λ i a b. absurd (omega (arith, b)), λ i a b. absurd (omega (arith, a, b, e)))

  pub within-none : (ss : List (Option (ℕ × T))) (from end : ℕ) → ss ≡ [] → IsAllWithin ss from end
  within-none ss from end e = rw e (λ i a b. refl, λ i a b. refl)

  pub none-within : (ss : List (Option (ℕ × T))) (from end : ℕ) → IsAllWithin ss from end
      → AreAbsent ss from end → entries_from 0 ss ≡ []
  none-within ss from end w free =
      sym (rest-whole ss) ∙ rest-none ss 0 (length ss) (omega arith) (λ i a b. elim (cases_lt i from) [
        | inl l ↦ w.0 i a l
        | inr g ↦ elim (cases_lt i end) [ inl l ↦ free i g l | inr h ↦ w.1 i h b ]
      ])

  stays : (ss : List (Option (ℕ × T))) (k i : ℕ) → slot_at ss i ≡ None → slot_at (slice_set ss k None) i ≡ None
  stays ss k i h = elim (cases_eq i k) [
    | inl e ↦ rw e (slot-freed ss k)
    | inr n ↦ get_or-set_other ss k i None None n ∙ h
  ]

  module _ (ss : List (Option (ℕ × T))) (from end : ℕ) (w : IsAllWithin ss from end) (k : KeyData) (x : T)
      (is : slot_at ss k.index ≡ Some (k.serial, x)) where
    abbrev new : List (Option (ℕ × T))
    new = slice_set ss k.index None

    there : k.index < length ss
    there = within-slots ss k.index (k.serial, x) is

    long : length new ≡ length ss
    long = length-set ss k.index None

    -- the first value
    module _ (free : AreAbsent ss from k.index) where
      below : (i : ℕ) → i < k.index → slot_at ss i ≡ None
      below i l = elim (cases_lt i from) [ inl b ↦ w.0 i (omega arith) b | inr g ↦ free i g l ]

      pub first-within : IsAllWithin new (k.index + 1) end
      first-within = (
        λ i a b. elim (cases_eq i k.index) [
          | inl e ↦ rw e (slot-freed ss k.index)
          | inr n ↦ stays ss k.index i (below i (omega (arith, b, n)))
        ],
        λ i a b. stays ss k.index i (w.1 i a (omega (arith, b, long))),
      )

      first-rest : entries_from 0 new ≡ rest_of new (k.index + 1) (length ss)
      first-rest =
          let more : 0 + (k.index + 1) ≡ k.index + 1 = omega arith in
          sym (rest-whole new) ∙ ap (λ n. rest_of new 0 n) long
          ∙ rest-free new (k.index + 1) 0 (length ss) (omega (arith, there)) (omega (arith, long))
          (λ i a b. first-within.0 i a (omega (arith, b)))
          ∙ ap (λ i. rest_of new i (length ss)) more

      pub first-taken : entries_from 0 ss ≡ (k, x) ∷ entries_from 0 new
      first-taken =
          sym (rest-whole ss)
          ∙ rest-next ss 0 k.index (length ss) k.serial x (omega arith) there (omega arith)
          (λ i a b. below i b) is
          ∙ ap (λ es. (k, x) ∷ es) (sym (rest-below ss (k.index + 1) (length ss) k.index None (omega arith))
          ∙ sym first-rest)

    -- the last value
    module _ (free : AreAbsent ss (k.index + 1) end) where
      above : (i : ℕ) → k.index + 1 ≤ i → i < length ss → slot_at ss i ≡ None
      above i a b = elim (cases_lt i end) [ inl l ↦ free i a l | inr g ↦ w.1 i g b ]

      pub last-within : IsAllWithin new from k.index
      last-within = (
        λ i a b. stays ss k.index i (w.0 i a b),
        λ i a b. elim (cases_eq i k.index) [
          | inl e ↦ rw e (slot-freed ss k.index)
          | inr n ↦ stays ss k.index i (above i (omega (arith, a, n)) (omega (arith, b, long)))
        ],
      )

      last-rest : entries_from 0 new ≡ rest_of ss 0 k.index
      last-rest =
          let more : length ss ≡ k.index + (length ss - k.index) = omega (arith, there) in
          sym (rest-whole new) ∙ ap (λ n. rest_of new 0 n) (long ∙ more)
          ∙ back-free new (length ss - k.index) 0 k.index (omega arith) (omega (arith, there, long))
          (λ i a b. last-within.1 i a (omega (arith, b, there, long)))
          ∙ rest-above ss 0 k.index None

      pub last-taken : entries_from 0 ss ≡ entries_from 0 new ++ (k, x) ∷ []
      last-taken =
          sym (rest-whole ss)
          ∙ rest-last ss 0 k.index (length ss) k.serial x (omega arith) there (omega arith) above is
          ∙ ap (λ es. es ++ (k, x) ∷ []) (sym last-rest)

module _ {T A K : Type 0} where
  -- nothing else is changed along the calls
  keeps-same : (d : Drain T A K) → DrainKeeps d d
  keeps-same d = record { lender = refl; others = refl }

  keeps-then : (d e f : Drain T A K) → DrainKeeps d e → DrainKeeps e f → DrainKeeps d f
  keeps-then d e f h k = record {
    lender = k.lender ∙ h.lender;
    others = k.others ∙ ap {A = Slotted T} (λ m. record m { slots = (drain_map f).slots }) h.others;
  }

  pub keeps-along : (d : Drain T A K) (xs : List (Key K × T)) (later : Drain T A K)
      → Yields drains_first d xs later → DrainKeeps d later
  keeps-along d [] later y = subst (DrainKeeps d) y (keeps-same d)
  keeps-along d (x ∷ xs) later y = keeps-then d y.0 later y.1.0 (keeps-along y.0 xs later y.2)

  -- what calls of `next` return, and calls of `next_back`
  pub drained-in_order : DrainsInOrder T A K
  drained-in_order = from_front (drains_first {T = T} {A = A} {K = K}) data_pair drain_remaining
      (λ d e h. ap length h.1.0) (λ d x e h. h.2)

  pub drained-in_reverse : DrainsInReverse T A K
  drained-in_reverse = from_back (drains_last {T = T} {A = A} {K = K}) data_pair drain_remaining
      (λ d e h. ap length h.1.0) (λ d x e h. h.2)

pub ruleset between = (nat_tests, found-held, absent-free, absent-cut)

pub ruleset drains = (length-entries, within-all, keeps-along, drained-in_order, drained-in_reverse)
