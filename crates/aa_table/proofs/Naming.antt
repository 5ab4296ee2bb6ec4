-- An index remains one when a slot is taken or freed.
use Rattle.std.proofs.Common.{◌≡◌, ◌≢◌, ℕ, zero, suc, ◌+◌, ◌-◌, ◌*◌, ◌<◌, ◌≤◌, Bool, true, false, cond, nat_lt, List, [], ◌∷◌, Option, None, Some, length, get_or, refl, sym, ◌∙◌, ap, arith, inl, inr, get_or-set_same, get_or-set_other}
use Rattle.std.specs.Prelude.{◌/◌, ◌%◌, ◌==◌, ◌⊎◌, count_by, min, max}
use Rattle.std.proofs.Math.ListN.{set}
use Rattle.std.proofs.lemmas.Bool.{cases_eq, cases_lt}
use Rattle.std.proofs.lemmas.Bool.Decides.{nat_tests}
use Rattle.std.proofs.lemmas.List.{length-set}
use Rattle.std.proofs.lemmas.List.Sums.{sum_by-cons}
use Rattle.aa_table.specs.declared.slots.Overflow.{Overflow}
use Rattle.aa_table.specs.Slots.{tag_at, tag_of, home_of, probe_group_of, probe_start, overflow_at, overflow_count, overflow_groups, one_more, one_less, reach_of, IsSlots, ProbeReaches, is_overflow, overflow_from, IsIndex}

-- how many keys overflow the home group of a slot, where one slot has another key
pub far-set : (n b s : ℕ) (hs : List (Option ℕ)) (i j : ℕ) (h : Option ℕ) → s + i ≡ j → i < length hs
    → overflow_from n b s (set hs i h) + cond (is_overflow n b j (get_or hs i None)) 1 0 ≡ overflow_from n b s hs + cond (is_overflow n b j h) 1 0
unfolding overflow_from
far-set n b s [] i j h e l = absurd (omega arith)
far-set n b s (x ∷ xs) zero j h e l = let same : j ≡ s = omega arith in rw same (omega arith)
far-set n b s (x ∷ xs) (suc i) j h e l = omega (arith, far-set n b (suc s) xs i j h (omega arith) (omega arith))

-- where a key overflows, at least one does
pub far-some : (n b s : ℕ) (hs : List (Option ℕ)) (i j : ℕ) → s + i ≡ j → i < length hs → cond (is_overflow n b j (get_or hs i None)) 1 0 ≤ overflow_from n b s hs
unfolding overflow_from
far-some n b s [] i j e l = absurd (omega arith)
far-some n b s (x ∷ xs) zero j e l = let same : j ≡ s = omega arith in rw same (omega arith)
far-some n b s (x ∷ xs) (suc i) j e l = omega (arith, far-some n b (suc s) xs i j (omega arith) (omega arith))

-- where no slot has a key, none overflows
pub far-none : (n b s : ℕ) (hs : List (Option ℕ)) → ((i : ℕ) → get_or hs i None ≡ None) → overflow_from n b s hs ≡ 0
unfolding overflow_from
far-none n b s [] free = refl
far-none n b s (x ∷ xs) free = rw (free zero) (omega (arith, far-none n b (suc s) xs (λ i. free (suc i))))

-- where no element passes, none is counted
count-none : {X : Type 0} (p : X → Bool) (d : X) (xs : List X) → ((i : ℕ) → i < length xs → p (get_or xs i d) ≡ false) → count_by p xs ≡ 0
count-none p d [] h = refl
count-none p d (x ∷ xs) h = grind (arith, count-none p d xs (λ i l. h (suc i) (omega arith)), h zero (omega arith), sum_by-cons (λ y. cond (p y) 1 0) x xs)

-- no slot of a group is free
abbrev pub IsFull : List ℕ → (block : ℕ) → Type 0
IsFull ts block = (i : ℕ) → block * 16 ≤ i → i < block * 16 + 16 → tag_at ts i ≢ 0

-- where the groups after one are full, round to itself, no slot is free
pub all-full : (ts : List ℕ) (home n : ℕ) → length ts ≡ 16 * n → home < n → ((k : ℕ) → k < n → IsFull ts (probe_group_of n home (k + 1))) → count_by (λ t. t == 0) ts ≡ 0
all-full ts home n long within full = count-none (λ t. t == 0) 0 ts (λ i l.
    let j : ℕ = i / 16 in
    let k : ℕ = cond (nat_lt home j) (j - home - 1) (j + n - home - 1) in
    let e : probe_group_of n home (k + 1) ≡ j = grind (arith, nat_tests) in
    let taken : tag_at ts i ≢ 0 = rw e at (full k (grind (arith, nat_tests))) i (omega arith) (omega arith) in
    grind (arith, nat_tests))

-- a slot that has a key is one of the slots
pub reachable-within : (hs : List (Option ℕ)) (s hash : ℕ) → get_or hs s None ≡ Some hash → s < length hs
reachable-within [] s hash e = absurd cc
reachable-within (x ∷ xs) zero hash e = omega arith
reachable-within (x ∷ xs) (suc s) hash e = omega (arith, reachable-within xs s hash e)

abbrev nothing : Overflow
nothing = record { byte = 0 }

byte-same : (bs : List Overflow) (at b : ℕ) (t : Overflow) → at < length bs → b ≡ at → overflow_at (set bs at t) b ≡ t
byte-same bs at b t l e = rw e (get_or-set_same bs at t nothing l)

byte-other : (bs : List Overflow) (at b : ℕ) (t : Overflow) → b ≢ at → overflow_at (set bs at t) b ≡ overflow_at bs b
byte-other bs at b t other = get_or-set_other bs at b t nothing other

-- a search visits as many groups as the overflow byte of its home slot says
reach-same : (bs new : List Overflow) (n hash : ℕ) → overflow_groups (overflow_at new (home_of n hash)) ≡ overflow_groups (overflow_at bs (home_of n hash)) → reach_of bs n hash ≡ reach_of new n hash
reach-same bs new n hash e = sym (ap (λ b. cond (b == 15) (n / 16) (min (n / 16) b)) e)

abbrev by_told : (groups byte : ℕ) → ℕ
by_told n b = cond (b == 15) n (min n b)

more-reach : (n b step : ℕ) → by_told n b ≤ by_told n (min 15 (max b step))
more-reach n b step = grind (arith, nat_tests)

step-reach : (n b step : ℕ) → step ≤ n → step ≤ by_told n (min 15 (max b step))
step-reach n b step l = grind (arith, nat_tests)

-- the halves of a byte
half-high : (k b : ℕ) → b ≤ 15 → (16 * k + b) / 16 ≡ k
half-high k b l = omega (arith, l)

half-low : (k b : ℕ) → b ≤ 15 → (16 * k + b) % 16 ≡ b
half-low k b l = omega (arith, l)

more-keys : (t : Overflow) (step : ℕ) → overflow_count (one_more t step) ≡ min 15 (overflow_count t + 1)
more-keys t step = half-high (min 15 (overflow_count t + 1)) (min 15 (max (overflow_groups t) step)) (grind arith)

more-groups : (t : Overflow) (step : ℕ) → overflow_groups (one_more t step) ≡ min 15 (max (overflow_groups t) step)
more-groups t step = half-low (min 15 (overflow_count t + 1)) (min 15 (max (overflow_groups t) step)) (grind arith)

-- a key in its home group does not overflow
not-far : (n b s hash : ℕ) → home_of n hash ≤ s → s < home_of n hash + 16 → is_overflow n b s (Some hash) ≡ false
not-far n b s hash from to = grind (arith, nat_tests)

-- but it does outside that
pub far-outside : (n b s hash : ℕ) → b ≡ home_of n hash → (s < home_of n hash) ⊎ (home_of n hash + 16 ≤ s) → is_overflow n b s (Some hash) ≡ true
far-outside n b s hash here (inl below) = grind (arith, nat_tests)
far-outside n b s hash here (inr past) = grind (arith, nat_tests)

-- a key with another home slot does not overflow this one
not-here : (n b s hash : ℕ) → home_of n hash ≢ b → is_overflow n b s (Some hash) ≡ false
not-here n b s hash other = grind (arith, nat_tests)

is-near : (n b s hash : ℕ) → home_of n hash ≡ b → cond {A = ℕ} (is_overflow n b s (Some hash)) 1 0 ≡ 0 → (home_of n hash ≤ s) × (s < home_of n hash + 16)
is-near n b s hash here near = (grind (arith, nat_tests), grind (arith, nat_tests))

less-keys : (t : Overflow) → overflow_count (one_less t) ≢ 15 → (overflow_count t ≢ 15) × (overflow_count t ≤ overflow_count (one_less t) + 1)
less-keys t known = (grind (arith, nat_tests), grind (arith, nat_tests))

less-groups : (t : Overflow) → (overflow_groups (one_less t) ≡ overflow_groups t) ⊎ ((overflow_count t ≢ 15) × (overflow_count t ≤ 1))
less-groups t = elim (cases_eq (overflow_count t) 15) [
  | inl many ↦ inl (grind (arith, nat_tests))
  | inr few ↦ elim (cases_lt 1 (overflow_count t)) [ inl more ↦ inl (grind (arith, nat_tests)) | inr last ↦ inr (few, omega (arith, last)) ]
]

-- where no slot has a key, each search for one reaches it
pub none-taken : (ts : List ℕ) (bs : List Overflow) (hs : List (Option ℕ)) → IsSlots ts bs → length ts ≤ length hs → ((s : ℕ) → get_or hs s None ≡ None) → ((s : ℕ) → tag_at ts s ≡ 0) → IsIndex ts bs hs
none-taken ts bs hs slots places none free = record {
  slots = slots;
  places = places;
  reachable = λ s hash e. let other : None ≡ Some hash = sym (none s) ∙ e in absurd cc;
  free = λ s e. free s;
  counted = λ b l known. omega (arith, far-none (length ts) b 0 hs none);
}

module _ (ts : List ℕ) (bs : List Overflow) where
  -- a search reaches another slot as before, where it visits as many groups
  pub kept : (new : List Overflow) (slot t hash s : ℕ) → s ≢ slot → (x : ProbeReaches ts bs hash s) → x.steps ≤ reach_of new (length ts) hash → ProbeReaches (set ts slot t) new hash s
  kept new slot t hash s other x goes = record {
    steps = x.steps;
    within = rw (length-set ts slot t) goes;
    from = rw (length-set ts slot t) x.from;
    to = rw (length-set ts slot t) x.to;
    tag = get_or-set_other ts slot s t 0 other ∙ x.tag;
  }

  -- a search reaches the slot that was written
  pub placed : (new : List Overflow) (slot hash steps : ℕ) → slot < length ts → steps ≤ reach_of new (length ts) hash
      → probe_start (length ts) hash steps ≤ slot → slot < probe_start (length ts) hash steps + 16 → ProbeReaches (set ts slot (tag_of hash)) new hash slot
  placed new slot hash steps within goes from to = record {
    steps = steps;
    within = rw (length-set ts slot (tag_of hash)) goes;
    from = rw (length-set ts slot (tag_of hash)) from;
    to = rw (length-set ts slot (tag_of hash)) to;
    tag = get_or-set_same ts slot (tag_of hash) 0 within;
  }

  -- a search reaches another slot of its home group, whatever the overflow byte
  pub near : (new : List Overflow) (slot t hash s : ℕ) → s ≢ slot → ProbeReaches ts bs hash s
      → home_of (length ts) hash ≤ s → s < home_of (length ts) hash + 16 → ProbeReaches (set ts slot t) new hash s
  near new slot t hash s other x from to = record {
    steps = 0;
    within = omega arith;
    from = rw (length-set ts slot t) from;
    to = rw (length-set ts slot t) to;
    tag = get_or-set_other ts slot s t 0 other ∙ x.tag;
  }

  module _ (hs : List (Option ℕ)) (new : List Overflow) (slot hash : ℕ) (within : slot < length ts) (index : IsIndex ts bs hs) (long : length new ≡ length bs) where
    has-place : slot < length hs
    has-place = omega (arith, index.places)

    -- a slot was taken
    pub taken : ProbeReaches (set ts slot (tag_of hash)) new hash slot
        → ((h : ℕ) → reach_of bs (length ts) h ≤ reach_of new (length ts) h)
        → ((b : ℕ) → b < length bs → overflow_count (overflow_at new b) ≢ 15 → (overflow_count (overflow_at bs b) ≢ 15) × (overflow_count (overflow_at bs b) + cond (is_overflow (length ts) b slot (Some hash)) 1 0 ≤ overflow_count (overflow_at new b)))
        → IsIndex (set ts slot (tag_of hash)) new (set hs slot (Some hash))
    taken here goes tells = record {
      slots = record {
        groups = rw (length-set ts slot (tag_of hash)) index.slots.groups;
        each = omega (arith, length-set ts slot (tag_of hash), index.slots.each, long);
        more = omega (arith, length-set ts slot (tag_of hash), index.slots.more);
      };
      places = omega (arith, length-set ts slot (tag_of hash), length-set hs slot (Some hash), index.places);
      reachable = λ s h e. elim (cases_eq s slot) [
        | inl same ↦
            let is : Some h ≡ Some hash = sym (rw same at e) ∙ get_or-set_same hs slot (Some hash) None has-place in
            let like : h ≡ hash = cc in
            rw (same, like) here
        | inr other ↦
            let x = index.reachable s h (sym (get_or-set_other hs slot s (Some hash) None other) ∙ e) in
            kept new slot (tag_of hash) h s other x (omega (arith, x.within, goes h))
      ];
      free = λ s e. elim (cases_eq s slot) [
        | inl same ↦
            let is : Some hash ≡ None = sym (get_or-set_same hs slot (Some hash) None has-place) ∙ (rw same at e) in
            absurd cc
        | inr other ↦ get_or-set_other ts slot s (tag_of hash) 0 other ∙ index.free s (sym (get_or-set_other hs slot s (Some hash) None other) ∙ e)
      ];
      counted = λ b l known.
          let was = tells b (omega (arith, l, long)) known in
          rw (length-set ts slot (tag_of hash)) (omega (arith, was.1, index.counted b (omega (arith, l, long)) was.0, far-set (length ts) b 0 hs slot slot (Some hash) (omega arith) has-place));
    }

    -- a slot was freed
    pub freed : get_or hs slot None ≡ Some hash
        → ((s h : ℕ) → s ≢ slot → get_or hs s None ≡ Some h → ProbeReaches ts bs h s → ProbeReaches (set ts slot 0) new h s)
        → ((b : ℕ) → b < length bs → overflow_count (overflow_at new b) ≢ 15 → (overflow_count (overflow_at bs b) ≢ 15) × (overflow_count (overflow_at bs b) ≤ overflow_count (overflow_at new b) + cond (is_overflow (length ts) b slot (Some hash)) 1 0))
        → IsIndex (set ts slot 0) new (set hs slot None)
    freed had others tells = record {
      slots = record {
        groups = rw (length-set ts slot 0) index.slots.groups;
        each = omega (arith, length-set ts slot 0, index.slots.each, long);
        more = omega (arith, length-set ts slot 0, index.slots.more);
      };
      places = omega (arith, length-set ts slot 0, length-set hs slot None, index.places);
      reachable = λ s h e. elim (cases_eq s slot) [
        | inl same ↦
            let is : Some h ≡ None = sym (rw same at e) ∙ get_or-set_same hs slot None None has-place in
            absurd cc
        | inr other ↦
            let was : get_or hs s None ≡ Some h = sym (get_or-set_other hs slot s None None other) ∙ e in
            others s h other was (index.reachable s h was)
      ];
      free = λ s e. elim (cases_eq s slot) [
        | inl same ↦ rw same (get_or-set_same ts slot 0 0 within)
        | inr other ↦ get_or-set_other ts slot s 0 0 other ∙ index.free s (sym (get_or-set_other hs slot s None None other) ∙ e)
      ];
      counted = λ b l known.
          let was = tells b (omega (arith, l, long)) known in
          rw (length-set ts slot 0) (omega (arith, was.1, index.counted b (omega (arith, l, long)) was.0, rw had at (far-set (length ts) b 0 hs slot slot None (omega arith) has-place)));
    }

  module _ (hs : List (Option ℕ)) (slot hash : ℕ) (within : slot < length ts) (index : IsIndex ts bs hs) where
    -- a slot of the home group was taken
    pub taken-near : home_of (length ts) hash ≤ slot → slot < home_of (length ts) hash + 16 → IsIndex (set ts slot (tag_of hash)) bs (set hs slot (Some hash))
    taken-near from to = taken hs bs slot hash within index refl (placed bs slot hash 0 within (omega arith) from to) (λ h. omega arith)
        (λ b l known. (known, rw (not-far (length ts) b slot hash from to) (omega arith)))

    -- and freed
    pub freed-near : get_or hs slot None ≡ Some hash → IsIndex (set ts slot 0) bs (set hs slot None)
    freed-near had = freed hs bs slot hash within index refl had (λ s h other e x. kept bs slot 0 h s other x x.within) (λ b l known. (known, omega arith))

    module _ (spot : ℕ) (home : spot ≡ home_of (length ts) hash) (byte : spot < length bs) where
      abbrev more : ℕ → List Overflow
      more step = set bs spot (one_more (overflow_at bs spot) step)

      -- a slot outside the home group was taken
      goes-on : (step h : ℕ) → reach_of bs (length ts) h ≤ reach_of (more step) (length ts) h
      goes-on step h = elim (cases_eq (home_of (length ts) h) spot) [
        | inl same ↦ rw (byte-same bs spot (home_of (length ts) h) (one_more (overflow_at bs spot) step) byte same, same, more-groups (overflow_at bs spot) step) (more-reach (length ts / 16) (overflow_groups (overflow_at bs spot)) step)
        | inr other ↦ omega (arith, reach-same bs (more step) (length ts) h (ap (λ t. overflow_groups t) (byte-other bs spot (home_of (length ts) h) (one_more (overflow_at bs spot) step) other)))
      ]

      goes-there : (step : ℕ) → step ≤ length ts / 16 → step ≤ reach_of (more step) (length ts) hash
      goes-there step l = rw (byte-same bs spot (home_of (length ts) hash) (one_more (overflow_at bs spot) step) byte (sym home), more-groups (overflow_at bs spot) step) (step-reach (length ts / 16) (overflow_groups (overflow_at bs spot)) step l)

      tells-more : (step b : ℕ) → overflow_count (overflow_at (more step) b) ≢ 15 → (overflow_count (overflow_at bs b) ≢ 15) × (overflow_count (overflow_at bs b) + cond (is_overflow (length ts) b slot (Some hash)) 1 0 ≤ overflow_count (overflow_at (more step) b))
      tells-more step b known = elim (cases_eq b spot) [
        | inl same ↦
            let is = byte-same bs spot b (one_more (overflow_at bs spot) step) byte same in
            let more = more-keys (overflow_at bs spot) step in
            let few : min 15 (overflow_count (overflow_at bs spot) + 1) ≢ 15 = rw (is, more) at known in
            let one : cond (is_overflow (length ts) spot slot (Some hash)) 1 0 ≤ 1 = grind arith in
            rw (is, same, more) (omega (arith, few), omega (arith, few, one))
        | inr other ↦
            let is = byte-other bs spot b (one_more (overflow_at bs spot) step) other in
            rw (is, not-here (length ts) b slot hash (λ e. other (sym e ∙ sym home))) (rw is at known, omega arith)
      ]

      pub taken-far : (step at : ℕ) → 0 < step → step ≤ length ts / 16 → at ≡ probe_group_of (length ts / 16) (home_of (length ts) hash / 16) step → at * 16 ≤ slot → slot < at * 16 + 16
          → IsIndex (set ts slot (tag_of hash)) (more step) (set hs slot (Some hash))
      taken-far zero at some l way from to = absurd (omega arith)
      taken-far (suc k) at some l way from to =
          let begins : probe_start (length ts) hash (suc k) ≡ at * 16 = omega (arith, way) in
          taken hs (more (suc k)) slot hash within index (length-set bs spot (one_more (overflow_at bs spot) (suc k)))
          (placed (more (suc k)) slot hash (suc k) within (goes-there (suc k) l) (omega (arith, begins)) (omega (arith, begins))) (goes-on (suc k)) (λ b _ known. tells-more (suc k) b known)

      -- and freed
      abbrev less : List Overflow
      less = set bs spot (one_less (overflow_at bs spot))

      module _ (had : get_or hs slot None ≡ Some hash) (far : is_overflow (length ts) spot slot (Some hash) ≡ true) where
        tells-less : (b : ℕ) → overflow_count (overflow_at less b) ≢ 15 → (overflow_count (overflow_at bs b) ≢ 15) × (overflow_count (overflow_at bs b) ≤ overflow_count (overflow_at less b) + cond (is_overflow (length ts) b slot (Some hash)) 1 0)
        tells-less b known = elim (cases_eq b spot) [
          | inl same ↦
              let is = byte-same bs spot b (one_less (overflow_at bs spot)) byte same in
              rw (is, same, far) (less-keys (overflow_at bs spot) (rw is at known))
          | inr other ↦
              let is = byte-other bs spot b (one_less (overflow_at bs spot)) other in
              rw is (rw is at known, omega arith)
        ]

        -- where the last key that overflowed was freed, all others are in the home group
        none-far : overflow_count (overflow_at bs spot) ≢ 15 → overflow_count (overflow_at bs spot) ≤ 1 → (s h : ℕ) → s ≢ slot → get_or hs s None ≡ Some h → cond {A = ℕ} (is_overflow (length ts) spot s (Some h)) 1 0 ≡ 0
        none-far known few s h other e =
            let place : slot < length hs = omega (arith, index.places) in
            let here : get_or (set hs slot None) s None ≡ Some h = get_or-set_other hs slot s None None other ∙ e in
            let count = rw (had, far) at (far-set (length ts) spot 0 hs slot slot None (omega arith) place) in
            let some = rw here at (far-some (length ts) spot 0 (set hs slot None) s s (omega arith) (omega (arith, reachable-within (set hs slot None) s h here))) in
            omega (arith, count, some, index.counted spot byte known)

        others-stay : (s h : ℕ) → s ≢ slot → get_or hs s None ≡ Some h → ProbeReaches ts bs h s → ProbeReaches (set ts slot 0) less h s
        others-stay s h other e x = elim (cases_eq (home_of (length ts) h) spot) [
          | inl same ↦
              let is = byte-same bs spot (home_of (length ts) h) (one_less (overflow_at bs spot)) byte same in
              elim (less-groups (overflow_at bs spot)) [
                | inl stays ↦ kept less slot 0 h s other x (omega (arith, x.within, reach-same bs less (length ts) h (ap (λ t. overflow_groups t) is ∙ stays ∙ ap (λ b. overflow_groups (overflow_at bs b)) (sym same))))
                | inr last ↦
                    let at = is-near (length ts) spot s h same (none-far last.0 last.1 s h other e) in
                    near less slot 0 h s other x at.0 at.1
              ]
          | inr apart ↦
              kept less slot 0 h s other x (omega (arith, x.within, reach-same bs less (length ts) h (ap (λ t. overflow_groups t) (byte-other bs spot (home_of (length ts) h) (one_less (overflow_at bs spot)) apart))))
        ]

        pub freed-far : IsIndex (set ts slot 0) less (set hs slot None)
        freed-far = freed hs less slot hash within index (length-set bs spot (one_less (overflow_at bs spot))) had others-stay (λ b _ known. tells-less b known)
