-- The remaining pairs of an iterator, after the next slot with a value, or the last.
use Rattle.aa_slots.proofs.Common.{AreFree, AreHeld, Held, IsRest, KeyData, List, None, Option, Some, State, [], ap, arith, cases_lt, count, drop, entries_from, get_or, get_or-set_other, inl, inr, is_some, length, length-append, length-set, refl, rest_of, seen, slice_set, slot_at, state_at, subst, suc, sym, take, zero, ℕ, ⊤, ◌++◌, ◌+◌, ◌-◌, ◌<◌, ◌∙◌, ◌∷◌, ◌≡◌, ◌≢◌, ◌≤◌}
use Rattle.aa_slots.proofs.Finds.{length-entries}
use Rattle.aa_slots.proofs.Iterating.{entries-cons, entries-push, pairs_of}
use Rattle.aa_slots.proofs.Seen.{length-seen, seen-emptied, slot-free, slot-seen}
use Rattle.std.proofs.Common.{drop-set-lt, get_or-drop, length-drop, take_all}
use Rattle.std.proofs.lemmas.List.{append-nil, drop-set-add, drop_more, length-take-le, take-set-le, take_more}

module _ {T : Type 0} (ss : List (Option (ℕ × T))) where
  rest-ends : (from end : ℕ) → end ≤ from → rest_of ss from end ≡ []
  rest-ends from end h = let none : end - from ≡ 0 = omega (arith, h) in
      ap (λ n. entries_from from (take n (drop from ss))) none

  rest-step : (from end : ℕ) → from < end → end ≤ length ss
      → rest_of ss from end ≡ pairs_of from (slot_at ss from) ++ rest_of ss (from + 1) end
  rest-step from end l m =
      let more : end - from ≡ suc (end - (from + 1)) = omega (arith, l) in
      ap (λ n. entries_from from (take n (drop from ss))) more
      ∙ ap (λ xs. entries_from from (take (suc (end - (from + 1))) xs))
      (drop_more ss from None (omega (arith, l, m)))
      ∙ entries-cons from (slot_at ss from) (take (end - (from + 1)) (drop (from + 1) ss))

  -- free slots have no pairs
  pub rest-free : (n from end : ℕ) → from + n ≤ end → end ≤ length ss
      → ((i : ℕ) → from ≤ i → i < from + n → slot_at ss i ≡ None)
      → rest_of ss from end ≡ rest_of ss (from + n) end
  rest-free zero from end l m h = let same : from ≡ from + 0 = omega arith in ap (λ i. rest_of ss i end) same
  rest-free (suc n) from end l m h =
      let next : from + 1 + n ≡ from + suc n = omega arith in
      rest-step from end (omega (arith, l)) m
      ∙ ap (λ o. pairs_of from o ++ rest_of ss (from + 1) end) (h from (omega arith) (omega arith))
      ∙ rest-free n (from + 1) end (omega (arith, l)) m (λ i a b. h i (omega (arith, a)) (omega (arith, b)))
      ∙ ap (λ i. rest_of ss i end) next

  pub rest-none : (from end : ℕ) → end ≤ length ss
      → ((i : ℕ) → from ≤ i → i < end → slot_at ss i ≡ None) → rest_of ss from end ≡ []
  rest-none from end m h = elim (cases_lt from end) [
    | inl l ↦
        let n : from + (end - from) ≡ end = omega (arith, l) in
        rest-free (end - from) from end (omega (arith, l)) m (λ i a b. h i a (omega (arith, b, l)))
        ∙ ap (λ i. rest_of ss i end) n ∙ rest-ends end end (omega arith)
    | inr g ↦ rest-ends from end g
  ]

  pub rest-next : (from k end serial : ℕ) (x : T) → from ≤ k → k < end → end ≤ length ss
      → ((i : ℕ) → from ≤ i → i < k → slot_at ss i ≡ None) → slot_at ss k ≡ Some (serial, x)
      → rest_of ss from end
      ≡ (record { index = k; serial = serial }, x) ∷ rest_of ss (k + 1) end
  rest-next from k end serial x a b m h is =
      let n : from + (k - from) ≡ k = omega (arith, a) in
      rest-free (k - from) from end (omega (arith, a, b)) m (λ i c d. h i c (omega (arith, d, a)))
      ∙ ap (λ i. rest_of ss i end) n ∙ rest-step k end b m
      ∙ ap (λ o. pairs_of k o ++ rest_of ss (k + 1) end) is

  back-step : (from k : ℕ) → from ≤ k → k < length ss
      → rest_of ss from (k + 1) ≡ rest_of ss from k ++ pairs_of k (slot_at ss k)
  back-step from k a b =
      let more : k + 1 - from ≡ k - from + 1 = omega (arith, a) in
      let within : k - from < length (drop from ss) = omega (arith, a, b, length-drop from ss) in
      let long = length-take-le (k - from) (drop from ss) (omega (arith, within)) in
      let at : from + (k - from) ≡ k = omega (arith, a) in
      ap (λ n. entries_from from (take n (drop from ss))) more
      ∙ ap (entries_from from) (take_more (drop from ss) (k - from) None within)
      ∙ entries-push from k (take (k - from) (drop from ss)) (get_or (drop from ss) (k - from) None)
      (omega (arith, long, a))
      ∙ ap (λ o. rest_of ss from k ++ pairs_of k o)
      (get_or-drop from ss (k - from) None ∙ ap (λ i. get_or ss i None) at)

  pub back-free : (n from k : ℕ) → from ≤ k → k + n ≤ length ss
      → ((i : ℕ) → k ≤ i → i < k + n → slot_at ss i ≡ None)
      → rest_of ss from (k + n) ≡ rest_of ss from k
  back-free zero from k a m h = let same : k + 0 ≡ k = omega arith in ap (λ i. rest_of ss from i) same
  back-free (suc n) from k a m h =
      let more : k + suc n ≡ k + n + 1 = omega arith in
      ap (λ i. rest_of ss from i) more
      ∙ back-step from (k + n) (omega (arith, a)) (omega (arith, m))
      ∙ ap (λ o. rest_of ss from (k + n) ++ pairs_of (k + n) o) (h (k + n) (omega arith) (omega arith))
      ∙ append-nil (rest_of ss from (k + n))
      ∙ back-free n from k a (omega (arith, m)) (λ i b c. h i b (omega (arith, c)))

  pub rest-last : (from k end serial : ℕ) (x : T) → from ≤ k → k < end → end ≤ length ss
      → ((i : ℕ) → k + 1 ≤ i → i < end → slot_at ss i ≡ None) → slot_at ss k ≡ Some (serial, x)
      → rest_of ss from end
      ≡ rest_of ss from k ++ (record { index = k; serial = serial }, x) ∷ []
  rest-last from k end serial x a b m h is =
      let n : k + 1 + (end - (k + 1)) ≡ end = omega (arith, b) in
      ap (λ i. rest_of ss from i) (sym n)
      ∙ back-free (end - (k + 1)) from (k + 1) (omega (arith, a)) (omega (arith, b, m))
      (λ i c d. h i c (omega (arith, d, b)))
      ∙ back-step from k a (omega (arith, b, m))
      ∙ ap (λ o. rest_of ss from k ++ pairs_of k o) is

  pub rest-whole : rest_of ss 0 (length ss) ≡ entries_from 0 ss
  rest-whole = let all : length ss - 0 ≡ length ss = omega arith in
      ap (λ n. entries_from 0 (take n ss)) all
      ∙ ap (entries_from 0) (take_all (length ss) ss (omega arith))

  pub rest-onward : (from : ℕ) → rest_of ss from (length ss) ≡ entries_from from (drop from ss)
  rest-onward from = ap (entries_from from)
      (take_all (length ss - from) (drop from ss) (omega (arith, length-drop from ss)))

  -- a slot that no longer remains is emptied
  pub rest-below : (from end k : ℕ) (o : Option (ℕ × T)) → k < from
      → rest_of (slice_set ss k o) from end ≡ rest_of ss from end
  rest-below from end k o l =
      ap (λ xs. entries_from from (take (end - from) xs)) (drop-set-lt from ss k o l)

  pub rest-above : (from k : ℕ) (o : Option (ℕ × T))
      → rest_of (slice_set ss k o) from k ≡ rest_of ss from k
  rest-above from k o = elim (cases_lt k from) [
    | inl l ↦ rest-below from k k o l
    | inr g ↦
        let n : k ≡ from + (k - from) = omega (arith, g) in
        ap (λ j. entries_from from (take (k - from) (drop from (slice_set ss j o)))) n
        ∙ ap (λ xs. entries_from from (take (k - from) xs)) (drop-set-add from ss (k - from) o)
        ∙ ap (entries_from from) (take-set-le (k - from) (drop from ss) (k - from) o (omega arith))
  ]

module _ {T : Type 0} where
  -- all slots
  pub all-rest : (ss : List State) (cs : List (Option (⊤ × T)))
      → rest_of (seen ss cs) 0 (length ss) ≡ entries_from 0 (seen ss cs)
  all-rest ss cs =
      ap (λ n. rest_of (seen ss cs) 0 n) (sym (length-seen ss cs)) ∙ rest-whole (seen ss cs)

  pub all-are : (ss : List State) (cs : List (Option (⊤ × T))) (n : ℕ) → AreHeld ss cs
      → n ≡ count (seen ss cs) → IsRest ss cs 0 (length ss) n
  all-are ss cs n held e = record {
    within = omega arith;
    left = e ∙ sym (length-entries 0 (seen ss cs)) ∙ ap length (sym (all-rest ss cs));
    held = λ i a b. held i;
  }

  module _ {ss : List State} {cs : List (Option (⊤ × T))} {from end left : ℕ} (l : IsRest ss cs from end left) where
    few : end ≤ length (seen ss cs)
    few = omega (arith, l.within, length-seen ss cs)

    pub none-left : AreFree ss from end → rest_of (seen ss cs) from end ≡ []
    none-left h = rest-none (seen ss cs) from end few (λ i a b. slot-free ss cs i (h i a b))

    module _ (k : KeyData) (e : ⊤ × T) (there : (from ≤ k.index) × (k.index < end)) (is : state_at ss k.index ≡ Held k.serial) (here : get_or cs k.index None ≡ Some e) where
      slot : slot_at (seen ss cs) k.index ≡ Some (k.serial, e.1)
      slot = rw (slot-seen ss cs k.index, is, here) refl

      -- the first one
      module _ (free : AreFree ss from k.index) where
        pub next-left : rest_of (seen ss cs) from end ≡ (k, e.1) ∷ rest_of (seen ss cs) (k.index + 1) end
        next-left = rest-next (seen ss cs) from k.index end k.serial e.1 there.0 there.1 few (λ i a b. slot-free ss cs i (free i a b)) slot

        pub next-some : 1 ≤ left
        next-some = omega (arith, l.left, ap length next-left)

        pub next-is : IsRest ss cs (k.index + 1) end (left - 1)
        next-is = record {
          within = l.within;
          left = omega (arith, l.left, ap length next-left);
          held = λ i a b. l.held i (omega (arith, a, there.0)) b;
        }

        -- and its value is taken
        pub take-next : (ds : List (Option (⊤ × T))) → ds ≡ slice_set cs k.index None
            → rest_of (seen ss cs) from end ≡ (k, e.1) ∷ rest_of (seen ss ds) (k.index + 1) end
        take-next ds after = rw (after, seen-emptied ss cs k.index, rest-below (seen ss cs) (k.index + 1) end k.index None (omega arith)) next-left

        pub take-next-is : (ds : List (Option (⊤ × T))) → ds ≡ slice_set cs k.index None
            → IsRest ss ds (k.index + 1) end (left - 1)
        take-next-is ds after = record {
          within = l.within;
          left = omega (arith, l.left, ap length (take-next ds after));
          held = λ i a b h. rw (after, get_or-set_other cs k.index i None None (λ q. omega (arith, a, q))) (l.held i (omega (arith, a, there.0)) b h);
        }

      -- the last one
      module _ (free : AreFree ss (k.index + 1) end) where
        pub last-left : rest_of (seen ss cs) from end ≡ rest_of (seen ss cs) from k.index ++ (k, e.1) ∷ []
        last-left = rest-last (seen ss cs) from k.index end k.serial e.1 there.0 there.1 few (λ i a b. slot-free ss cs i (free i a b)) slot

        pub last-some : 1 ≤ left
        last-some = omega (arith, l.left, ap length last-left, length-append (rest_of (seen ss cs) from k.index) ((k, e.1) ∷ []))

        pub last-is : IsRest ss cs from k.index (left - 1)
        last-is = record {
          within = omega (arith, l.within, there.1);
          left = omega (arith, l.left, ap length last-left, length-append (rest_of (seen ss cs) from k.index) ((k, e.1) ∷ []));
          held = λ i a b. l.held i a (omega (arith, b, there.1));
        }

        -- and its value is taken
        pub take-last : (ds : List (Option (⊤ × T))) → ds ≡ slice_set cs k.index None
            → rest_of (seen ss cs) from end ≡ rest_of (seen ss ds) from k.index ++ (k, e.1) ∷ []
        take-last ds after = rw (after, seen-emptied ss cs k.index, rest-above (seen ss cs) from k.index None) last-left

        pub take-last-is : (ds : List (Option (⊤ × T))) → ds ≡ slice_set cs k.index None
            → IsRest ss ds from k.index (left - 1)
        take-last-is ds after = record {
          within = omega (arith, l.within, there.1);
          left = omega (arith, l.left, ap length (take-last ds after), length-append (rest_of (seen ss ds) from k.index) ((k, e.1) ∷ []));
          held = λ i a b h. rw (after, get_or-set_other cs k.index i None None (λ q. omega (arith, b, q))) (l.held i a (omega (arith, b, there.1)) h);
        }

pub ruleset all_slots = (all-rest, all-are)

pub ruleset from_first = (none-left, next-left, next-some, next-is)

pub ruleset from_last = (none-left, last-left, last-some, last-is, length-append)
