-- The view of slots and their places.
use Rattle.aa_slots.proofs.Common.{AreHeld, Free, Held, List, None, Option, Some, State, [], ap, arith, cond, count, count_by, ext_get_or, false, get_or, held, is_held, is_held_by, is_some, length, refl, seen, serial_in, slice_set, slot_at, state_at, suc, sym, true, value_under, zero, ℕ, ⊤, ◌++◌, ◌<◌, ◌∙◌, ◌∷◌, ◌≡◌}
use Rattle.aa_slots.proofs.Finds.{count-cons}
use Rattle.std.proofs.lemmas.Bool.Decides.{nat_tests}
use Rattle.std.specs.Prelude.{nat_eq}
use Rattle.std.proofs.lemmas.List.Sums.{sum_by-cons}

state-within : (ss : List State) (i serial : ℕ) → state_at ss i ≡ Held serial → i < length ss
state-within [] i serial h = absurd (cc)
state-within (s ∷ ss) zero serial h = omega arith
state-within (s ∷ ss) (suc i) serial h = omega (arith, state-within ss i serial h)

pub held-within : (ss : List State) (i : ℕ) → is_held (state_at ss i) ≡ true → i < length ss
held-within [] i h = absurd (cc)
held-within (s ∷ ss) zero h = omega arith
held-within (s ∷ ss) (suc i) h = omega (arith, held-within ss i h)

in-held : (s : State) (serial : ℕ) → Some serial ≡ serial_in s → s ≡ Held serial
in-held (Free next) serial e = absurd (cc)
in-held (Held k) serial e = let same : serial ≡ k = cc in ap Held (sym same)

module _ {T : Type 0} where
  pub length-seen : (ss : List State) (cs : List (Option (⊤ × T))) → length (seen ss cs) ≡ length ss
  length-seen [] cs = refl
  length-seen (s ∷ ss) [] = ap suc (length-seen ss [])
  length-seen (s ∷ ss) (c ∷ cs) = ap suc (length-seen ss cs)

  pub none-seen : (ss : List State) (cs : List (Option (⊤ × T))) → seen ss cs ≡ [] → ss ≡ []
  none-seen [] cs e = refl
  none-seen (s ∷ ss) [] e = absurd (cc)
  none-seen (s ∷ ss) (c ∷ cs) e = absurd (cc)

  none-held : (s : State) → held {T = T} s None ≡ None
  none-held (Free next) = refl
  none-held (Held serial) = refl

  pub slot-seen : (ss : List State) (cs : List (Option (⊤ × T))) (i : ℕ)
      → slot_at (seen ss cs) i ≡ held (state_at ss i) (get_or cs i None)
  slot-seen [] cs i = refl
  slot-seen (s ∷ ss) [] zero = sym (none-held s)
  slot-seen (s ∷ ss) [] (suc i) = slot-seen ss [] i
  slot-seen (s ∷ ss) (c ∷ cs) zero = refl
  slot-seen (s ∷ ss) (c ∷ cs) (suc i) = slot-seen ss cs i

  same-held : (s : State) (c d : Option (⊤ × T)) → (is_held s ≡ true → c ≡ d) → held s c ≡ held s d
  same-held (Free next) c d h = refl
  same-held (Held serial) c d h = ap (held (Held serial)) (h refl)

  -- the slots depend on the places with their values alone
  pub seen-same : (ss : List State) (cs ds : List (Option (⊤ × T)))
      → ((i : ℕ) → is_held (state_at ss i) ≡ true → get_or cs i None ≡ get_or ds i None)
      → seen ss cs ≡ seen ss ds
  seen-same ss cs ds h = ext_get_or None (seen ss cs) (seen ss ds)
      (length-seen ss cs ∙ sym (length-seen ss ds))
      (λ i l. slot-seen ss cs i
      ∙ same-held (state_at ss i) (get_or cs i None) (get_or ds i None) (h i)
      ∙ sym (slot-seen ss ds i))

  pub count-held : (ss : List State) (cs : List (Option (⊤ × T))) → AreHeld ss cs
      → count (seen ss cs) ≡ count_by is_held ss
  count-held [] cs h = refl
  count-held (Free next ∷ ss) [] h = omega (
    arith,
    count-held ss [] (λ i. h (suc i)),
    count-cons {T = T} None (seen ss []),
    sum_by-cons (λ s. cond (is_held s) 1 0) (Free next) ss,
  )
  count-held (Held serial ∷ ss) [] h = absurd (let f = h 0 refl in cc)
  count-held (Free next ∷ ss) (c ∷ cs) h = omega (
    arith,
    count-held ss cs (λ i. h (suc i)),
    count-cons {T = T} None (seen ss cs),
    sum_by-cons (λ s. cond (is_held s) 1 0) (Free next) ss,
  )
  count-held (Held serial ∷ ss) (None ∷ cs) h = absurd (let f = h 0 refl in cc)
  count-held (Held serial ∷ ss) (Some e ∷ cs) h = omega (
    arith,
    count-held ss cs (λ i. h (suc i)),
    count-cons (Some (serial, e.1)) (seen ss cs),
    sum_by-cons (λ s. cond (is_held s) 1 0) (Held serial) ss,
  )

  pub seen-set : (ss : List State) (cs : List (Option (⊤ × T))) (i : ℕ) (s : State)
      (c : Option (⊤ × T)) → i < length ss → i < length cs
      → seen (slice_set ss i s) (slice_set cs i c) ≡ slice_set (seen ss cs) i (held s c)
  seen-set [] cs i s c l m = absurd (omega (arith, l))
  seen-set (t ∷ ss) [] i s c l m = absurd (omega (arith, m))
  seen-set (t ∷ ss) (d ∷ cs) zero s c l m = refl
  seen-set (t ∷ ss) (d ∷ cs) (suc i) s c l m =
      ap (λ xs. held t d ∷ xs) (seen-set ss cs i s c (omega (arith, l)) (omega (arith, m)))

  pub seen-emptied : (ss : List State) (cs : List (Option (⊤ × T))) (i : ℕ)
      → seen ss (slice_set cs i None) ≡ slice_set (seen ss cs) i None
  seen-emptied [] cs i = refl
  seen-emptied (s ∷ ss) [] zero = refl
  seen-emptied (s ∷ ss) [] (suc i) = ap (λ xs. None ∷ xs) (seen-emptied ss [] i)
  seen-emptied (s ∷ ss) (c ∷ cs) zero = ap (λ o. o ∷ seen ss cs) (none-held s)
  seen-emptied (s ∷ ss) (c ∷ cs) (suc i) = ap (λ xs. held s c ∷ xs) (seen-emptied ss cs i)

  pub seen-push : (ss : List State) (cs : List (Option (⊤ × T))) (s : State) (c : Option (⊤ × T))
      → length ss < length cs
      → seen (ss ++ s ∷ []) (slice_set cs (length ss) c) ≡ seen ss cs ++ held s c ∷ []
  seen-push ss [] s c l = absurd (omega (arith, l))
  seen-push [] (d ∷ cs) s c l = refl
  seen-push (t ∷ ss) (d ∷ cs) s c l =
      ap (λ xs. held t d ∷ xs) (seen-push ss cs s c (omega (arith, l)))

  -- another value in the place of a slot that has one
  pub seen-rewritten : (ss : List State) (cs : List (Option (⊤ × T))) (i serial : ℕ)
      (e : ⊤ × T) (w : ⊤ × T) → state_at ss i ≡ Held serial → get_or cs i None ≡ Some e
      → seen ss (slice_set cs i (Some w)) ≡ slice_set (seen ss cs) i (Some (serial, w.1))
  seen-rewritten [] cs i serial e w is at = absurd (cc)
  seen-rewritten (s ∷ ss) [] i serial e w is at = absurd (cc)
  seen-rewritten (s ∷ ss) (c ∷ cs) zero serial e w is at =
      ap (λ t. held t (Some w) ∷ seen ss cs) is
  seen-rewritten (s ∷ ss) (c ∷ cs) (suc i) serial e w is at =
      ap (λ xs. held s c ∷ xs) (seen-rewritten ss cs i serial e w is at)

  -- a slot with a value, and its place
  pub record HasValue (ss : List State) (cs : List (Option (⊤ × T))) (i : ℕ) : Type 0 where
    pub serial : ℕ
    pub entry : ⊤ × T
    pub is : state_at ss i ≡ Held serial
    pub here : get_or cs i None ≡ Some entry
    pub slot : slot_at (seen ss cs) i ≡ Some (serial, entry.1)
    pub within : i < length ss

  pub value-at : (ss : List State) (cs : List (Option (⊤ × T))) (i serial : ℕ) (e : ⊤ × T)
      → state_at ss i ≡ Held serial → get_or cs i None ≡ Some e → HasValue ss cs i
  value-at ss cs i serial e is here = record {
    serial = serial;
    entry = e;
    is = is;
    here = here;
    slot = rw (slot-seen ss cs i, is, here) refl;
    within = state-within ss i serial is;
  }

  of-held : (ss : List State) (cs : List (Option (⊤ × T))) (i : ℕ) (s : State)
      (c : Option (⊤ × T)) → state_at ss i ≡ s → get_or cs i None ≡ c
      → is_some (held s c) ≡ true → HasValue ss cs i
  of-held ss cs i (Free next) c is here h = absurd (cc)
  of-held ss cs i (Held serial) None is here h = absurd (cc)
  of-held ss cs i (Held serial) (Some e) is here h = value-at ss cs i serial e is here

  pub has-value : (ss : List State) (cs : List (Option (⊤ × T))) (i : ℕ)
      → is_some (slot_at (seen ss cs) i) ≡ true → HasValue ss cs i
  has-value ss cs i h = of-held ss cs i (state_at ss i) (get_or cs i None) refl refl
      (rw (slot-seen ss cs i) at h)

  of-some : (c : Option (⊤ × T)) → is_some c ≡ true → (e : ⊤ × T) × (c ≡ Some e)
  of-some None h = absurd (cc)
  of-some (Some e) h = (e, refl)

  -- a slot that has a value by its state
  pub value-of : (ss : List State) (cs : List (Option (⊤ × T))) → AreHeld ss cs
      → (i serial : ℕ) → state_at ss i ≡ Held serial → HasValue ss cs i
  value-of ss cs held i serial is =
      let e = of-some (get_or cs i None) (held i (ap is_held is)) in value-at ss cs i serial e.0 is e.1

  held-free : (s : State) (c : Option (⊤ × T)) → is_held s ≡ false → held s c ≡ None
  held-free (Free next) c h = refl
  held-free (Held serial) c h = absurd (cc)

  -- a free one
  pub slot-free : (ss : List State) (cs : List (Option (⊤ × T))) (i : ℕ)
      → is_held (state_at ss i) ≡ false → slot_at (seen ss cs) i ≡ None
  slot-free ss cs i h = slot-seen ss cs i ∙ held-free (state_at ss i) (get_or cs i None) h

  -- a key whose value is searched for
  held-serial : (s : State) (c : Option (⊤ × T)) (own serial : ℕ) → (is_held s ≡ true → is_some c ≡ true)
      → Some own ≡ serial_in s → nat_eq own serial ≡ is_some (value_under serial (held s c))
  held-serial (Free next) c own serial h e = absurd (cc)
  held-serial (Held k) None own serial h e = absurd (let f = h refl in cc)
  held-serial (Held k) (Some x) own serial h e = let same : own ≡ k = cc in grind (arith, nat_tests, same)

  pub found-serial : (ss : List State) (cs : List (Option (⊤ × T))) → AreHeld ss cs
      → (i own serial : ℕ) → Some own ≡ serial_in (state_at ss i)
      → nat_eq own serial ≡ is_some (value_under serial (slot_at (seen ss cs) i))
  found-serial ss cs h i own serial e = rw (slot-seen ss cs i)
      (held-serial (state_at ss i) (get_or cs i None) own serial (h i) e)

  by-state : (s : State) (c : Option (⊤ × T)) (serial : ℕ) → (is_held s ≡ true → is_some c ≡ true)
      → is_held_by serial s ≡ is_some (value_under serial (held s c))
  by-state (Free next) c serial h = refl
  by-state (Held own) c serial h = held-serial (Held own) c own serial h refl

  pub found-by : (ss : List State) (cs : List (Option (⊤ × T))) → AreHeld ss cs → (i serial : ℕ)
      → is_held_by serial (state_at ss i) ≡ is_some (value_under serial (slot_at (seen ss cs) i))
  found-by ss cs h i serial = rw (slot-seen ss cs i)
      (by-state (state_at ss i) (get_or cs i None) serial (h i))

  free-serial : (s : State) (c : Option (⊤ × T)) → None ≡ serial_in s → held s c ≡ None
  free-serial (Free next) c e = refl
  free-serial (Held k) c e = absurd (cc)

  pub none-serial : (ss : List State) (cs : List (Option (⊤ × T))) (i : ℕ)
      → None ≡ serial_in (state_at ss i) → slot_at (seen ss cs) i ≡ None
  none-serial ss cs i e =
      slot-seen ss cs i ∙ free-serial (state_at ss i) (get_or cs i None) e

  pub some-serial : (ss : List State) (cs : List (Option (⊤ × T))) → AreHeld ss cs
      → (i serial : ℕ) → Some serial ≡ serial_in (state_at ss i)
      → (x : T) × (slot_at (seen ss cs) i ≡ Some (serial, x))
  some-serial ss cs h i serial e =
      let s = in-held (state_at ss i) serial e in let c = of-some (get_or cs i None) (h i (ap is_held s)) in
      (c.0.1, slot-seen ss cs i ∙ (λ j. held (s j) (c.1 j)))

  -- a slot with the value of a key
  pub record HasKey (ss : List State) (cs : List (Option (⊤ × T))) (i serial : ℕ) : Type 0 where
    pub entry : ⊤ × T
    pub is : state_at ss i ≡ Held serial
    pub here : get_or cs i None ≡ Some entry
    pub slot : slot_at (seen ss cs) i ≡ Some (serial, entry.1)
    pub finds : value_under serial (slot_at (seen ss cs) i) ≡ Some entry.1

  under-some : (o : Option (ℕ × T)) (e : ℕ × T) (serial : ℕ) → o ≡ Some e
      → is_some (value_under serial o) ≡ true → e.0 ≡ serial
  under-some None e serial is h = absurd (cc)
  under-some (Some f) e serial is h =
      let same : f ≡ e = cc in let own : f.0 ≡ serial = grind (arith, nat_tests, h) in
      ap (λ z. z.0) (sym same) ∙ own

  any-under : (o : Option (ℕ × T)) (serial : ℕ) → is_some (value_under serial o) ≡ true → is_some o ≡ true
  any-under None serial h = absurd (cc)
  any-under (Some e) serial h = refl

  pub has-key : (ss : List State) (cs : List (Option (⊤ × T))) (i serial : ℕ)
      → is_some (value_under serial (slot_at (seen ss cs) i)) ≡ true → HasKey ss cs i serial
  has-key ss cs i serial h =
      let v = has-value ss cs i (any-under (slot_at (seen ss cs) i) serial h) in
      let own : v.serial ≡ serial =
      under-some (slot_at (seen ss cs) i) (v.serial, v.entry.1) serial v.slot h in
      let slot : slot_at (seen ss cs) i ≡ Some (serial, v.entry.1) =
      v.slot ∙ ap (λ n. Some (n, v.entry.1)) own in
      let value : value_under serial (Some (serial, v.entry.1)) ≡ Some v.entry.1 =
      grind (arith, nat_tests) in record {
        entry = v.entry;
        is = v.is ∙ ap Held own;
        here = v.here;
        slot = slot;
        finds = ap (value_under serial) slot ∙ value;
      }
