-- The slots while `retain` passes over them.
use Rattle.aa_slots.proofs.Common.{Key, KeyData, List, None, Option, Slotted, Some, [], ap, arith, cond, entries_from, false, find, length, length-set, refl, slice_set, slot_at, suc, sym, true, value_under, with_value, zero, ℕ, ◌++◌, ◌+◌, ◌<◌, ◌∙◌, ◌∷◌, ◌≡◌, ◌≤◌}
use Rattle.std.proofs.Common.{Bool, MutBor, drop, option_map, subst, take}
use Rattle.std.proofs.lemmas.Bool.Decides.{nat_tests}
use Rattle.std.proofs.lemmas.List.{append-nil, append_assoc, drop-set-lt, drop_all, drop_more, get_or-set_same, take_all, take_more, take_more_set}
use Rattle.aa_slots.specs.Keys.{key_of}
use Rattle.aa_slots.specs.Retaining.{Keeps, MayReturn}
use Rattle.std.specs.Prelude.{if◌then◌else◌}

module _ {T : Type 0} where
  pub within-slots : (ss : List (Option (ℕ × T))) (i : ℕ) (e : ℕ × T)
      → slot_at ss i ≡ Some e → i < length ss
  within-slots [] i e h = absurd (cc)
  within-slots (s ∷ ss) zero e h = omega arith
  within-slots (s ∷ ss) (suc i) e h = omega (arith, within-slots ss i e h)

  pub under-some : (o : Option (ℕ × T)) (serial : ℕ) (x : T)
      → value_under serial o ≡ Some x → o ≡ Some (serial, x)
  under-some None serial x h = absurd (cc)
  under-some (Some e) serial x h = grind (arith, nat_tests, h)

  -- a value that was written is found
  pub found-written : (m : Slotted T) (k : KeyData) (x y : T) → find m k ≡ Some x
      → find (with_value m k y) k ≡ Some y
  found-written m k x y h =
      let is = under-some (slot_at m.slots k.index) k.serial x h in
      let within = within-slots m.slots k.index (k.serial, x) is in
      let read = get_or-set_same m.slots k.index (Some (k.serial, y)) None within in
      rw read (grind (arith, nat_tests))

  -- the slot of a key whose value is found
  pub called-slot : (ss : List (Option (ℕ × T))) (i : ℕ) (k : KeyData) (x : T)
      (o : Option (ℕ × T)) → slot_at ss i ≡ o
      → option_map (λ e. record { index = i; serial = e.0 }) o ≡ Some k
      → value_under k.serial (slot_at ss k.index) ≡ Some x
      → (k.index ≡ i) × (slot_at ss i ≡ Some (k.serial, x))
  called-slot ss i k x None is e h = absurd (cc)
  called-slot ss i k x (Some s) is e h =
      let same : k.index ≡ i = grind (arith, e) in
      (same, rw same at (under-some (slot_at ss k.index) k.serial x h))

module _ {T F K : Type 0} (step : F → Key K → MutBor T → Bool → MutBor T → F → Type 0) where
  -- `f` was called for each key of the slots from index `i` on, in order, and is `g` then; the
  -- slots are `kept` then: a value for which it returned `true` is as the call left it, and others
  -- are removed
  abbrev pub KeepsSlots : (f : F) → (i : ℕ) → (ss kept : List (Option (ℕ × T))) → (g : F) → Type 0
  KeepsSlots f i [] kept g = (kept ≡ []) × (g ≡ f)
  KeepsSlots f i (None ∷ ss) kept g =
      (others : List (Option (ℕ × T))) × (kept ≡ None ∷ others) × KeepsSlots f (i + 1) ss others g
  KeepsSlots f i (Some e ∷ ss) kept g =
      (keep : Bool) × (y : T) × (next : F)
      × MayReturn step f (record { index = i; serial = e.0 }) e.1 keep y next
      × (others : List (Option (ℕ × T)))
      × (kept ≡ (if keep then Some (e.0, y) else None) ∷ others) × KeepsSlots next (i + 1) ss others g

  pub may-return : (f : F) (k : KeyData) (before : MutBor T) (keep : Bool) (after : MutBor T) (g : F)
      → step f (key_of k) before keep after g → MayReturn step f k before.now keep after.now g
  may-return f k before keep after g call =
      record { before = before; given = refl; after = after; left = refl; call = call }

  -- what `retain` leaves of the slots from `i` on completes what it left of those before
  abbrev pub IsPassed : (first : F) → (old : List (Option (ℕ × T))) → (f : F)
      → (now : List (Option (ℕ × T))) → (i : ℕ) → Type 0
  IsPassed first old f now i =
      (length now ≡ length old)
      × (drop i now ≡ drop i old)
      × ((others : List (Option (ℕ × T))) (g : F) → KeepsSlots f i (drop i old) others g
      → KeepsSlots first 0 old (take i now ++ others) g)

  module _ (first : F) (old now : List (Option (ℕ × T))) (f : F) (i : ℕ) (within : i < length now)
      (inv : IsPassed first old f now i) where
    head : (o : Option (ℕ × T)) → slot_at now i ≡ o → drop i old ≡ o ∷ drop (i + 1) now
    head o is = sym inv.1 ∙ drop_more now i None within ∙ ap (λ x. x ∷ drop (i + 1) now) is

    rests : drop (i + 1) now ≡ drop (i + 1) old
    rests =
        let a = head (slot_at now i) refl in
        let b = drop_more old i None (omega (arith, inv.0, within)) in
        let both : slot_at now i ∷ drop (i + 1) now ≡ slot_at old i ∷ drop (i + 1) old =
        sym a ∙ b in
        cc

    -- over a free slot
    pub passed-free : slot_at now i ≡ None → IsPassed first old f now (i + 1)
    passed-free is = (
      inv.0,
      rests,
      λ others g more.
          let whole = head None is ∙ ap (λ xs. None ∷ xs) rests in
          let one : take (i + 1) now ++ others ≡ take i now ++ (None ∷ others) =
          rw (take_more now i None within, is) (append_assoc (take i now) (None ∷ []) others) in
          rw one (inv.2 (None ∷ others) g (rw whole (others, refl, more))),
    )

    -- and over one whose value the closure was called for
    pub passed-called : (k : KeyData) (x y : T) (keep : Bool) (g : F) → k.index ≡ i
        → slot_at now i ≡ Some (k.serial, x) → MayReturn step f k x keep y g
        → IsPassed first old g
        (slice_set now k.index (cond keep (Some (k.serial, y)) None)) (i + 1)
    passed-called k x y keep g same is call =
        let slot : Option (ℕ × T) = cond keep (Some (k.serial, y)) None in
        let key : k ≡ record { index = i; serial = k.serial } =
        λ t. record { index = same t; serial = k.serial } in
        let called = subst (λ (j : KeyData). MayReturn step f j x keep y g) key call in
        rw same (
          length-set now i slot ∙ inv.0,
          drop-set-lt (i + 1) now i slot (omega arith) ∙ rests,
          λ others last more.
              let whole = head (Some (k.serial, x)) is ∙ ap (λ xs. Some (k.serial, x) ∷ xs) rests in
              let one : take (i + 1) (slice_set now i slot) ++ others
              ≡ take i now ++ (slot ∷ others) =
              rw (take_more_set now i slot within) (append_assoc (take i now) (slot ∷ []) others) in
              rw one (inv.2 (slot ∷ others) last
              (rw whole (keep, y, g, called, others, refl, more))),
        )

  pub passed-all : (first : F) (old now : List (Option (ℕ × T))) (f : F) (i : ℕ) → length old ≤ i
      → IsPassed first old f now i → KeepsSlots first 0 old now f
  passed-all first old now f i past inv =
      let whole : take i now ++ [] ≡ now =
      append-nil (take i now) ∙ take_all i now (omega (arith, inv.0)) in
      rw whole at (inv.2 [] f (rw (drop_all i old past) (refl, refl)))

  one-kept : (i serial : ℕ) (y : T) (keep : Bool) (others : List (Option (ℕ × T)))
      → entries_from i ((if keep then Some (serial, y) else None) ∷ others)
      ≡ (if keep then (record { index = i; serial = serial }, y) ∷ entries_from (i + 1) others
      else entries_from (i + 1) others)
  one-kept i serial y true others = refl
  one-kept i serial y false others = refl

  -- the same of the pairs in the slots
  pub pairs-kept : (f : F) (i : ℕ) (ss kept : List (Option (ℕ × T))) (g : F)
      → KeepsSlots f i ss kept g → Keeps step f (entries_from i ss) (entries_from i kept) g
  pairs-kept f i [] kept g h = (ap (entries_from i) h.0, h.1)
  pairs-kept f i (None ∷ ss) kept g h = rw h.1 (pairs-kept f (i + 1) ss h.0 g h.2)
  pairs-kept f i (Some e ∷ ss) kept g h = (
    h.0,
    h.1,
    h.2,
    h.3,
    entries_from (i + 1) h.4,
    ap (entries_from i) h.5 ∙ one-kept i e.0 h.1 h.0 h.4,
    pairs-kept h.2 (i + 1) ss h.4 g h.6,
  )

pub ruleset passing = (found-written, passed-free)
