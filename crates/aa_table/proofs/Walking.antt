-- The mask of a group: its lowest bit, and what it is without that bit.
use Rattle.std.proofs.Common.{◌≡◌, ◌≢◌, ℕ, zero, suc, ◌+◌, ◌*◌, ◌-◌, ◌<◌, ◌≤◌, Bool, true, false, cond, not, eqb, List, [], ◌∷◌, length, map, get_or, refl, subst, sym, ◌∙◌, ap, arith, inl, inr}
use Rattle.std.specs.Prelude.{◌/◌, ◌^◌}
use Rattle.std.specs.List.{prefix_len, range_with_len}
use Rattle.std.proofs.lemmas.Bool.{cases_Bool, cases_lt}
use Rattle.std.proofs.lemmas.Bool.Decides.{nat_tests}
use Rattle.std.proofs.lemmas.List.{get_or-map, length-map}
use Rattle.std.proofs.Math.Nat.{pow-le-pow_right, pow-suc}
use Rattle.std.proofs.lemmas.List.FromFn.{fill_by_all, get_or-map-range_with_len, get_or-range_with_len}
use Rattle.std.proofs.lemmas.Nat.{leading_top, pow_pos}
use Rattle.std.proofs.lemmas.List.Sums.{prefix_len_passes, prefix_len_stops}
use Rattle.std.proofs.lemmas.Simd.{leading_from_mask_l, mask_l-lt, trailing_mask_l}
use Rattle.aa_table.specs.Slots.{tag_at}
use Rattle.aa_table.specs.Walks.{AreGroups, HasTaken, is_left, mask_of}
use Rattle.aa_table.proofs.Groups.{in_window, none_set, sixteen, window}
use Rattle.aa_table.proofs.Moving.{past}
use lib.Bits.{and_self, and_step, bit_and}
use lib.Count.{count_leading_zeros, count_trailing_zeros}
use lib.Lanes.{mask_l}

so : (b : Bool) → not b ≡ false → b ≡ true
so true e = refl
so false e = sym e

-- a number without its lowest bit
odd : (m : ℕ) → bit_and (1 + 2 * m) (1 + 2 * m - 1) ≡ 2 * m
odd m =
    let a : (1 + 2 * m) / 2 ≡ m = omega arith in
    let b : (1 + 2 * m - 1) / 2 ≡ m = omega arith in
    let both : bit_and ((1 + 2 * m) / 2) ((1 + 2 * m - 1) / 2) ≡ m = (λ i. bit_and (a i) (b i)) ∙ and_self m in
    omega (arith, and_step (1 + 2 * m) (1 + 2 * m - 1), both)

even : (m : ℕ) → 0 < m → bit_and (0 + 2 * m) (0 + 2 * m - 1) ≡ 2 * bit_and m (m - 1)
even m some =
    let a : (0 + 2 * m) / 2 ≡ m = omega arith in
    let b : (0 + 2 * m - 1) / 2 ≡ m - 1 = omega arith in
    let both : bit_and ((0 + 2 * m) / 2) ((0 + 2 * m - 1) / 2) ≡ bit_and m (m - 1) = λ i. bit_and (a i) (b i) in
    omega (arith, and_step (0 + 2 * m) (0 + 2 * m - 1), both)

-- the highest bit of a mask that is not 0
record IsHighestBit (ms : List Bool) (j : ℕ) : Type 0 where
  within : j < length ms
  set : get_or ms j false ≡ true
  above : (i : ℕ) → j < i → get_or ms i false ≡ false
  low : 2 ^ j ≤ mask_l ms
  high : mask_l ms < 2 ^ suc j

bits-none : (ms : List Bool) (i : ℕ) → mask_l ms ≡ 0 → get_or ms i false ≡ false
bits-none [] i e = refl
bits-none (true ∷ ms) i e = absurd (omega (arith, e))
bits-none (false ∷ ms) zero e = refl
bits-none (false ∷ ms) (suc i) e = bits-none ms i (omega (arith, e))

higher : (b : Bool) (ms : List Bool) (j : ℕ) → IsHighestBit ms j → IsHighestBit (b ∷ ms) (suc j)
higher b ms j h = record {
  within = omega (arith, h.within);
  set = h.set;
  above = later;
  low = size b;
  high = bound b;
}
  where
    later : (i : ℕ) → suc j < i → get_or (b ∷ ms) i false ≡ false
    later zero l = absurd (omega (arith, l))
    later (suc i) l = h.above i (omega (arith, l))

    size : (c : Bool) → 2 ^ suc j ≤ cond c 1 0 + 2 * mask_l ms
    size true = omega (arith, h.low, pow-suc 2 j)
    size false = omega (arith, h.low, pow-suc 2 j)

    bound : (c : Bool) → cond c 1 0 + 2 * mask_l ms < 2 ^ suc (suc j)
    bound true = omega (arith, h.high, pow-suc 2 (suc j))
    bound false = omega (arith, h.high, pow-suc 2 (suc j))

highest-bit : (ms : List Bool) → 0 < mask_l ms → (j : ℕ) × IsHighestBit ms j
highest-bit [] some = absurd (omega (arith, some))
highest-bit (b ∷ ms) some = elim (cases_lt 0 (mask_l ms)) [
  | inl l ↦ let r = highest-bit ms l in (suc r.0, higher b ms r.0 r.1)
  | inr z ↦ (0, first b some (omega (arith, z)))
]
  where
    above : mask_l ms ≡ 0 → (c : Bool) (i : ℕ) → 0 < i → get_or (c ∷ ms) i false ≡ false
    above none c zero l = absurd (omega (arith, l))
    above none c (suc i) l = bits-none ms i none

    first : (c : Bool) → 0 < cond c 1 0 + 2 * mask_l ms → mask_l ms ≡ 0 → IsHighestBit (c ∷ ms) 0
    first false some none = absurd (omega (arith, some, none))
    first true some none = record {
      within = omega arith;
      set = refl;
      above = above none true;
      low = omega arith;
      high = omega (arith, none);
    }

leading : (ms : List Bool) (j : ℕ) → IsHighestBit ms j → length ms ≤ 64 → 63 - count_leading_zeros 64 (mask_l ms) ≡ j
leading ms j h l =
    let m : ℕ = mask_l ms in
    let fits : m < 2 ^ 64 = omega (arith, mask_l-lt ms, pow-le-pow_right {n = 2} (omega arith) l) in
    let top = leading_top 64 m (omega (arith, h.low, pow_pos j)) fits in
    elim (cases_lt top.0 j) [
      | inl a ↦ absurd (omega (arith, h.low, top.3, pow-le-pow_right {n = 2} (omega arith) {i = suc top.0} {j = j} (omega (arith, a))))
      | inr b ↦ elim (cases_lt j top.0) [
        | inl a ↦ absurd (omega (arith, h.high, top.2, pow-le-pow_right {n = 2} (omega arith) {i = suc j} {j = top.0} (omega (arith, a))))
        | inr c ↦ omega (arith, top.1, b, c)
      ]
    ]

module _ (ts : List ℕ) (base : ℕ) where
  -- the slot `base + i` is taken, and not before `from`
  abbrev left : (from i : ℕ) → Bool
  left from i = is_left ts from (base + i)

  -- how many slots come before the first that is left
  abbrev others : (from a n : ℕ) → ℕ
  others from a n = prefix_len (λ i. not (left from i)) (range_with_len a n)

  abbrev bits : (from a n : ℕ) → ℕ
  bits from a n = mask_l (map (left from) (range_with_len a n))

  taken : (from i : ℕ) → from ≤ base + i → left from i ≡ not (eqb (tag_at ts (base + i)) 0)
  taken from i l = grind (arith, nat_tests)

  passed : (from i : ℕ) → base + i < from → left from i ≡ false
  passed from i l = grind (arith, nat_tests)

  not-passed : (from i : ℕ) → left from i ≡ true → from ≤ base + i
  not-passed from i l = grind (arith, nat_tests)

  same-left : (f g a n : ℕ) → f ≤ base + a → g ≤ base + a → map (left f) (range_with_len a n) ≡ map (left g) (range_with_len a n)
  same-left f g a zero x y = refl
  same-left f g a (suc n) x y = λ i. (taken f a x ∙ sym (taken g a y)) i ∷ same-left f g (a + 1) n (omega arith) (omega arith) i

  cleared : (f a n : ℕ) → 0 < bits f a n → bit_and (bits f a n) (bits f a n - 1) ≡ bits (base + (a + others f a n) + 1) a n
  cleared f a zero some = absurd (omega arith)
  cleared f a (suc n) some = elim (cases_Bool (left f a)) [
    | inl e ↦
        let g : ℕ = base + (a + 0) + 1 in
        let rest : bits g (a + 1) n ≡ m = ap mask_l (same-left g f (a + 1) n (omega arith) (omega (arith, not-passed f a e))) in
        let now : bit_and (1 + 2 * m) (1 + 2 * m - 1) ≡ 0 + 2 * bits g (a + 1) n = omega (arith, odd m, rest) in
        joined true 0 e refl now
    | inr e ↦
        let g : ℕ = base + (a + (1 + others f (a + 1) n)) + 1 in
        let same : base + (a + 1 + others f (a + 1) n) + 1 ≡ g = omega arith in
        let all : 0 < 0 + 2 * m = subst (λ b. 0 < cond b 1 0 + 2 * m) e some in
        let more : 0 < m = omega (arith, all) in
        let now : bit_and (0 + 2 * m) (0 + 2 * m - 1) ≡ 0 + 2 * bits g (a + 1) n = omega (arith, even m more, cleared f (a + 1) n more ∙ ap (λ h. bits h (a + 1) n) same) in
        joined false (1 + others f (a + 1) n) e refl now
  ]
    where
      m : ℕ
      m = bits f (a + 1) n

      -- by whether the first slot is left
      joined : (b : Bool) (k : ℕ) → left f a ≡ b → cond (not b) (1 + others f (a + 1) n) 0 ≡ k
          → bit_and (cond b 1 0 + 2 * m) (cond b 1 0 + 2 * m - 1) ≡ 0 + 2 * bits (base + (a + k) + 1) (a + 1) n
          → bit_and (bits f a (suc n)) (bits f a (suc n) - 1) ≡ bits (base + (a + others f a (suc n)) + 1) a (suc n)
      joined b k e count now =
          let old : bits f a (suc n) ≡ cond b 1 0 + 2 * m = ap (λ c. cond c 1 0 + 2 * m) e in
          let some : others f a (suc n) ≡ k = ap (λ c. cond (not c) (1 + others f (a + 1) n) 0) e ∙ count in
          let new : bits (base + (a + k) + 1) a (suc n) ≡ 0 + 2 * bits (base + (a + k) + 1) (a + 1) n = ap (λ c. cond c 1 0 + 2 * bits (base + (a + k) + 1) (a + 1) n) (passed (base + (a + k) + 1) a (omega arith)) in
          ap (λ x. bit_and x (x - 1)) old ∙ now ∙ sym new ∙ ap (λ c. bits (base + (a + c) + 1) a (suc n)) (sym some)

  module _ (from : ℕ) where
    -- the slots before are free
    free-before : (k : ℕ) → k < 16 → k < others from 0 16 → from ≤ base + k → tag_at ts (base + k) ≡ 0
    free-before k b few l =
        let at : get_or (range_with_len 0 16) k 0 ≡ 0 + k = get_or-range_with_len 0 16 k 0 b in
        let same : 0 + k ≡ k = omega arith in
        let other : not (left from (get_or (range_with_len 0 16) k 0)) ≡ true = prefix_len_passes (λ i. not (left from i)) (range_with_len 0 16) k 0 few in
        let here : not (left from k) ≡ true = rw (at, same) at other in
        grind (arith, nat_tests, here, taken from k l)

    free-slot : (s : ℕ) → base ≤ s → s < base + 16 → s - base < others from 0 16 → from ≤ s → tag_at ts s ≡ 0
    free-slot s b e few l =
        let same : base + (s - base) ≡ s = omega (arith, b) in
        rw same at (free-before (s - base) (omega (arith, b, e)) few (omega (arith, b, l)))

    -- where the mask is 0, no slot of the group is left
    pub none-left : mask_of ts base from ≡ 0 → (s : ℕ) → from ≤ s → base ≤ s → s < base + 16 → tag_at ts s ≡ 0
    unfolding mask_of
    none-left none s l b e = free-slot s b e (omega (arith, leading_from_mask_l (left from) (range_with_len 0 16) none, b, e)) l

    -- and a further group follows, where a slot is left
    pub next-room : mask_of ts base from ≡ 0 → AreGroups ts → base ≡ 16 * (base / 16) → ((s : ℕ) → from ≤ s → s < base → tag_at ts s ≡ 0) → HasTaken ts from → base + 32 ≤ length ts
    next-room none groups aligned free some = elim (cases_lt (length ts) (base + 32)) [
      | inl l ↦ absurd (some (λ s a. elim (cases_lt s base) [
        | inl before ↦ free s a before
        | inr after ↦ elim (cases_lt s (base + 16)) [
          | inl here ↦ none-left none s a after here
          | inr out ↦ past ts s (omega (arith, out, l, aligned, groups))
        ]
      ]))
      | inr g ↦ g
    ]

    -- the lowest bit of the mask is that of the first slot that is left
    pub record IsLowest (s : ℕ) : Type 0 where
      pub after : from ≤ s
      pub low : base ≤ s
      pub high : s < base + 16
      pub tag : tag_at ts s ≢ 0
      pub first : (i : ℕ) → from ≤ i → base ≤ i → i < s → tag_at ts i ≡ 0
      pub without : bit_and (mask_of ts base from) (mask_of ts base from - 1) ≡ mask_of ts base (s + 1)

    pub lowest : mask_of ts base from ≢ 0 → IsLowest (base + count_trailing_zeros 64 (mask_of ts base from))
    unfolding mask_of
    lowest some =
        let set : 0 < mask_of ts base from = grind (arith, some) in
        let at : count_trailing_zeros 64 (mask_of ts base from) ≡ others from 0 16 = trailing_mask_l (left from) 64 (range_with_len 0 16) (omega arith) set in
        let high : others from 0 16 < 16 = elim (cases_lt (others from 0 16) 16) [
          | inl l ↦ l
          | inr g ↦ absurd (some (none_set (left from) (range_with_len 0 16) g))
        ] in
        let same : 0 + others from 0 16 ≡ others from 0 16 = omega arith in
        let slot = get_or-range_with_len 0 16 (others from 0 16) 0 high ∙ same in
        let stops : not (left from (others from 0 16)) ≡ false = rw slot at (prefix_len_stops (λ i. not (left from i)) (range_with_len 0 16) 0 high) in
        let here : left from (others from 0 16) ≡ true = so (left from (others from 0 16)) stops in
        let l = not-passed from (others from 0 16) here in
        rw at (record {
          after = l;
          low = omega arith;
          high = omega (arith, high);
          tag = grind (arith, nat_tests, here, taken from (others from 0 16) l);
          first = λ i x y z. free-slot i y (omega (arith, z, high)) (omega (arith, y, z)) x;
          without = cleared from 0 16 set ∙ ap (λ k. bits (base + k + 1) 0 16) same;
        })

  -- the highest bit of the mask is that of the last taken slot of the group
  pub record IsLast (s : ℕ) : Type 0 where
    pub low : base ≤ s
    pub high : s < base + 16
    pub tag : tag_at ts s ≢ 0
    pub last : (i : ℕ) → s < i → i < base + 16 → tag_at ts i ≡ 0

  pub highest : mask_of ts base 0 ≢ 0 → IsLast (base + (63 - count_leading_zeros 64 (mask_of ts base 0)))
  unfolding mask_of
  highest some =
      let ms : List Bool = map (left 0) (range_with_len 0 16) in
      let set : 0 < mask_l ms = grind (arith, some) in
      let h = highest-bit ms set in let j : ℕ = h.0 in
      let within : j < 16 = omega (arith, h.1.within) in
      let bit : (i : ℕ) → i < 16 → get_or ms i false ≡ not (eqb (tag_at ts (base + i)) 0) =
      λ i b. get_or-map-range_with_len (left 0) 0 16 i i false b (omega arith) ∙ taken 0 i (omega arith) in
      let at : 63 - count_leading_zeros 64 (mask_l ms) ≡ j = leading ms j h.1 (omega arith) in
      rw at (record {
        low = omega arith;
        high = omega (arith, within);
        tag = grind (arith, nat_tests, sym (bit j within) ∙ h.1.set);
        last = λ i a b.
            let same : base + (i - base) ≡ i = omega (arith, a) in
            let free : tag_at ts (base + (i - base)) ≡ 0 = grind (arith, nat_tests, sym (bit (i - base) (omega (arith, b, a))) ∙ h.1.above (i - base) (omega (arith, a))) in
            rw same at free;
      })

  -- the mask of a group that has not been reached
  pub fresh : (from : ℕ) → from ≤ base → base + 16 ≤ length ts → mask_l (map (λ t. not (eqb t 0)) (window ts base)) ≡ mask_of ts base from
  unfolding mask_of
  fresh from l room =
      ap mask_l (fill_by_all (left from) (map (λ t. not (eqb t 0)) (window ts base)) 16 false (length-map (window ts base) (λ t. not (eqb t 0)) ∙ sixteen ts base 0 room) (λ k b.
      get_or-map (λ t. not (eqb t 0)) (window ts base) k 0 false (omega (arith, b, sixteen ts base 0 room))
      ∙ ap (λ t. not (eqb t 0)) (in_window ts base 0 room k b) ∙ sym (taken from k (omega (arith, l)))))

-- the first group, and where there is none
pub first-none : (ts : List ℕ) → length ts ≡ 0 → mask_of ts 0 0 ≡ 0
unfolding mask_of
first-none [] e = refl
first-none (t ∷ ts) e = absurd (omega (arith, e))
