-- What slots are once one of them is written.
use Rattle.aa_slots.proofs.Common.{AreHeld, Chain, Free, Held, IsChain, IsSound, List, None, Option, Puts, Some, State, [], ap, arith, cases_eq, count, get_or, get_or-set_other, get_or-set_same, held, inl, inr, is_held, is_some, length, length-append, length-set, refl, seen, slice_get, slice_set, slot_at, suc, sym, true, zero, ℕ, ⊤, ◌++◌, ◌+◌, ◌-◌, ◌^◌, ◌<◌, ◌∙◌, ◌∷◌, ◌≡◌, ◌≤◌}
use Rattle.aa_slots.proofs.Chains.{chain-first, chain-none, first-of, get-past, get-set_same, got, held-apart, linked-set, one-more}
use Rattle.aa_slots.proofs.Finds.{count-freed, count-put, with_at-after, with_at-within}
use Rattle.aa_slots.proofs.Seen.{HasValue, count-held, has-value, length-seen, seen-push, seen-set, slot-free}
use Rattle.std.proofs.lemmas.List.{get_or_past}

module _ {T : Type 0} where
  pub held-set : (ss : List State) (cs : List (Option (⊤ × T))) (i : ℕ) (s : State) (e : ⊤ × T)
      → i < length cs → AreHeld ss cs → AreHeld (slice_set ss i s) (slice_set cs i (Some e))
  held-set ss cs i s e l h j a = elim (cases_eq j i) [
    | inl p ↦ rw (p, get_or-set_same cs i (Some e) None l) refl
    | inr n ↦ rw (get_or-set_other cs i j (Some e) None n) (h j (rw (get_or-set_other ss i j s (Free 0) n) at a))
  ]

  held-freed : (ss : List State) (cs : List (Option (⊤ × T))) (i next : ℕ)
      → i < length ss → AreHeld ss cs → AreHeld (slice_set ss i (Free next)) (slice_set cs i None)
  held-freed ss cs i next l h j a = elim (cases_eq j i) [
    | inl p ↦ absurd (let q = ap is_held (get_or-set_same ss i (Free next) (Free 0) l) in let r = rw p at a in cc)
    | inr n ↦ rw (get_or-set_other cs i j None None n) (h j (rw (get_or-set_other ss i j (Free next) (Free 0) n) at a))
  ]

  held-push : (ss : List State) (cs : List (Option (⊤ × T))) (s : State) (e : ⊤ × T)
      → length ss < length cs → AreHeld ss cs
      → AreHeld (ss ++ s ∷ []) (slice_set cs (length ss) (Some e))
  held-push ss [] s e l h i a = absurd (omega (arith, l))
  held-push [] (c ∷ cs) s e l h zero a = refl
  held-push [] (c ∷ cs) s e l h (suc i) a = absurd (cc)
  held-push (t ∷ ss) (c ∷ cs) s e l h zero a = h 0 a
  held-push (t ∷ ss) (c ∷ cs) s e l h (suc i) a = held-push ss cs s e (omega (arith, l)) (λ j. h (suc j)) i a

  module _ {ss : List State} {cs : List (Option (⊤ × T))} {free : Chain} {capacity : ℕ} (sound : IsSound ss cs free capacity) where
    -- the values are in other places of the same index
    pub stays : (ds : List (Option (⊤ × T))) → AreHeld ss ds → capacity ≤ length ds → IsSound ss ds free capacity
    stays ds held room = record {
      chain = sound.chain;
      first = sound.first;
      counted = omega (arith, sound.counted, count-held ss cs sound.held, count-held ss ds held);
      held = held;
      within = sound.within;
      room = room;
    }

    -- the first free slot
    module _ (some : 0 < free.count) where
      pub first-free : (next : ℕ) × (slice_get ss free.first ≡ Some (Free next))
      first-free = chain-first ss free.first free.count some sound.chain

      pub first-within : free.first < length ss
      first-within = get-past ss free.first (Free first-free.0) first-free.1

      pub first-place : free.first < length cs
      first-place = omega (arith, first-within, sound.within, sound.room)

      pub first-read : (old : State) → old ≡ get_or ss free.first old → old ≡ Free first-free.0
      first-read old read = read ∙ got ss free.first (Free first-free.0) old first-free.1

    -- is filled
    module _ {old : State} {next : ℕ} (some : 0 < free.count) (read : old ≡ get_or ss free.first old) (was : old ≡ Free next) (small : next < 2 ^ 63) where
      within : free.first < length ss
      within = first-within some

      place : free.first < length cs
      place = first-place some

      first : (s : State) → (slice_get ss free.first ≡ Some (Free next)) × IsChain (slice_set ss free.first s) next (free.count - 1)
      first s = let c = sound.chain in
          first-of ss free.first free.count old next s some c.slots c.count c.distinct c.linked read was

      module _ (serial : ℕ) (x : T) where
        pub filled-puts : Puts (seen ss cs) (record { index = free.first; serial = serial }) x (seen (slice_set ss free.first (Held serial)) (slice_set cs free.first (Some (tt, x))))
        filled-puts = record {
          free = slot-free ss cs free.first (ap is_held (got ss free.first (Free next) (Free 0) (first (Held serial)).0));
          within = omega (arith, within, length-seen ss cs);
          put = seen-set ss cs free.first (Held serial) (Some (tt, x)) within place ∙ sym (with_at-within (seen ss cs) free.first (Some (serial, x)) (omega (arith, within, length-seen ss cs)));
        }

        pub filled-sound : IsSound (slice_set ss free.first (Held serial)) (slice_set cs free.first (Some (tt, x))) (record { first = next; count = free.count - 1 }) capacity
        filled-sound = record {
          chain = (first (Held serial)).1;
          first = small;
          counted = omega (arith, some, sound.counted, count-put (seen ss cs) (seen (slice_set ss free.first (Held serial)) (slice_set cs free.first (Some (tt, x)))) free.first serial x filled-puts, length-set ss free.first (Held serial));
          held = held-set ss cs free.first (Held serial) (tt, x) place sound.held;
          within = omega (arith, sound.within, length-set ss free.first (Held serial));
          room = omega (arith, sound.room, length-set cs free.first (Some (tt, x)));
        }

    -- one is added after the others
    module _ (none : free.count ≡ 0) (room : length ss < capacity) where
      last-place : length ss < length cs
      last-place = omega (arith, room, sound.room)

      module _ (serial : ℕ) (x : T) where
        pub pushed-puts : Puts (seen ss cs) (record { index = length ss; serial = serial }) x (seen (ss ++ Held serial ∷ []) (slice_set cs (length ss) (Some (tt, x))))
        pushed-puts = record {
          free = get_or_past (seen ss cs) (length ss) None (omega (arith, length-seen ss cs));
          within = omega (arith, length-seen ss cs);
          put = seen-push ss cs (Held serial) (Some (tt, x)) last-place ∙ sym (rw (length-seen ss cs) at (with_at-after (seen ss cs) (Some (serial, x))));
        }

        pub pushed-sound : IsSound (ss ++ Held serial ∷ []) (slice_set cs (length ss) (Some (tt, x))) free capacity
        pushed-sound = record {
          chain = chain-none (ss ++ Held serial ∷ []) free.first free.count none;
          first = sound.first;
          counted = omega (arith, sound.counted, count-put (seen ss cs) (seen (ss ++ Held serial ∷ []) (slice_set cs (length ss) (Some (tt, x)))) (length ss) serial x pushed-puts, length-append ss (Held serial ∷ []));
          held = held-push ss cs (Held serial) (tt, x) last-place sound.held;
          within = omega (arith, room, length-append ss (Held serial ∷ []));
          room = omega (arith, sound.room, length-set cs (length ss) (Some (tt, x)));
        }

    -- a slot that has a value
    module _ (i : ℕ) (has : is_some (slot_at (seen ss cs) i) ≡ true) where
      abbrev pub here : HasValue ss cs i
      here = has-value ss cs i has

      pub here-place : i < length cs
      here-place = omega (arith, here.within, sound.within, sound.room)

      -- is rewritten
      pub rewritten-sound : (w : ⊤ × T) → IsSound ss (slice_set cs i (Some w)) free capacity
      rewritten-sound w = stays (slice_set cs i (Some w)) (λ j a. elim (cases_eq j i) [
        | inl p ↦ rw (p, get_or-set_same cs i (Some w) None here-place) refl
        | inr n ↦ rw (get_or-set_other cs i j (Some w) None n) (sound.held j a)
      ]) (omega (arith, sound.room, length-set cs i (Some w)))

      -- is released
      pub freed : (next : ℕ) → seen (slice_set ss i (Free next)) (slice_set cs i None) ≡ slice_set (seen ss cs) i None
      freed next = seen-set ss cs i (Free next) None here.within here-place

      pub released-sound : i < 2 ^ 63 → IsSound (slice_set ss i (Free free.first)) (slice_set cs i None) (record { first = i; count = free.count + 1 }) capacity
      released-sound small =
          let c = sound.chain in
          let others = held-apart ss i (ap is_held here.is) free.first c.slots c.linked in record {
            chain = record {
              slots = i ∷ c.slots;
              count = omega (arith, c.count);
              distinct = one-more i c.slots others c.distinct;
              linked = (refl, free.first, get-set_same ss i (Free free.first) here.within, linked-set ss i (Free free.first) free.first c.slots others c.linked);
            };
            first = small;
            counted = omega (arith, sound.counted, ap count (freed free.first), count-freed (seen ss cs) i has, length-set ss i (Free free.first));
            held = held-freed ss cs i free.first here.within sound.held;
            within = omega (arith, sound.within, length-set ss i (Free free.first));
            room = omega (arith, sound.room, length-set cs i None);
          }
