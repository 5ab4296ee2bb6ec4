-- The tags of a probe group, compared at once.
use Rattle.std.proofs.Common.{◌≡◌, ◌≢◌, ℕ, zero, suc, ◌+◌, ◌*◌, ◌-◌, ◌<◌, ◌≤◌, Bool, true, false, cond, not, eqb, List, [], ◌∷◌, length, map, take, drop, get_or, replicate, refl, sym, ◌∙◌, ap, arith, inl, inr}
use Rattle.std.specs.Prelude.{◌^◌, ◌/◌, ◌%◌}
use Rattle.std.specs.List.{prefix_len}
use Rattle.std.proofs.Math.Nat.{div-div-eq-div-mul, div-one, pow-succ', zero-div}
use Rattle.std.proofs.lemmas.Bool.{cases_Bool}
use Rattle.std.proofs.lemmas.List.{get_or-drop, get_or-take, length-drop, length-take-le}
use Rattle.std.proofs.lemmas.List.Sums.{prefix_len_passes, prefix_len_stops}
use Rattle.std.proofs.lemmas.Simd.{bitmask_splat, leading_from_mask_l, trailing_mask_l, length-chunk, get_or-chunk}
use lib.Lanes.{mask_l, zip2, top, chunk}
use lib.Count.{count_trailing_zeros}
use mir.Syntax.{w8}
use mir.Val.{bits, hbits}

-- the tags of the sixteen slots from one on
abbrev pub window : List ℕ → ℕ → List ℕ
window ts from = chunk 0 16 (take (from + 16 - from) (drop from ts))

-- the result of comparing them with a tag
abbrev pub compared : List ℕ → ℕ → ℕ
compared ws t = mask_l (map (top (hbits w8)) (zip2 (λ a b. cond (eqb a b) (2 ^ bits w8 - 1) 0) ws (replicate 16 t))) % 2 ^ 64

pub none_set : {X : Type 0} (p : X → Bool) (xs : List X) → length xs ≤ prefix_len (λ x. not (p x)) xs → mask_l (map p xs) ≡ 0
none_set p [] h = refl
none_set p (x ∷ xs) h = grind (arith, none_set p xs)

-- the bits from a place on are those of the elements from it on
high_bits : {X : Type 0} (p : X → Bool) (xs : List X) (k : ℕ) → mask_l (map p xs) / 2 ^ k ≡ mask_l (map p (drop k xs))
high_bits p xs zero = div-one (mask_l (map p xs))
high_bits p [] (suc k) = zero-div (2 ^ suc k)
high_bits p (x ∷ xs) (suc k) =
    let m : ℕ = mask_l (map p xs) in
    let n : ℕ = cond (p x) 1 0 + 2 * m in
    let half : n / 2 ≡ m = elim (cases_Bool (p x)) [ inl e ↦ rw e (omega arith) | inr e ↦ rw e (omega arith) ] in
    ap (λ q. n / q) (pow-succ' 2 k) ∙ sym (div-div-eq-div-mul n 2 (2 ^ k)) ∙ ap (λ q. q / 2 ^ k) half ∙ high_bits p xs k

unlike : (a t : ℕ) → not (eqb a t) ≡ true → a ≢ t
unlike a t h = grind arith

like : (a t : ℕ) → not (eqb a t) ≡ false → a ≡ t
like a t h = grind arith

module _ (ts : List ℕ) (from t : ℕ) (room : from + 16 ≤ length ts) where
  pub sixteen : length (window ts from) ≡ 16
  sixteen = length-chunk 0 16 (take (from + 16 - from) (drop from ts)) (omega (arith, length-take-le (from + 16 - from) (drop from ts) (omega (arith, length-drop from ts)), length-drop from ts))

  pub in_window : (k : ℕ) → k < 16 → get_or (window ts from) k 0 ≡ get_or ts (from + k) 0
  in_window k b =
      let same : 0 + k ≡ k = omega arith in
      get_or-chunk 0 16 (take (from + 16 - from) (drop from ts)) k 0 b ∙ ap (λ i. get_or (take (from + 16 - from) (drop from ts)) i 0) same ∙ get_or-take (from + 16 - from) (drop from ts) k 0 (omega arith) ∙ get_or-drop from ts k 0

  mask : compared (window ts from) t ≡ mask_l (map (λ x. eqb x t) (window ts from))
  mask = bitmask_splat w8 eqb (window ts from) 16 t sixteen (omega arith)

  -- of those past some
  module _ (past : ℕ) (few : past ≤ 15) where
    abbrev later : List ℕ
    later = drop past (window ts from)

    left : length later ≡ 16 - past
    left = length-drop past (window ts from) ∙ ap (λ n. n - past) sixteen

    bits_left : compared (window ts from) t / 2 ^ past ≡ mask_l (map (λ x. eqb x t) later)
    bits_left = ap (λ m. m / 2 ^ past) mask ∙ high_bits (λ x. eqb x t) (window ts from) past

    at_later : (i : ℕ) → past + i < 16 → get_or later i 0 ≡ get_or ts (from + (past + i)) 0
    at_later i b = get_or-drop past (window ts from) i 0 ∙ in_window (past + i) b

    -- how many of them are before the first with the tag
    abbrev others : ℕ
    others = prefix_len (λ x. not (eqb x t)) later

    none_of_others : (s : ℕ) → from + past ≤ s → s < from + past + others → s < from + 16 → get_or ts s 0 ≢ t
    none_of_others s after few b =
        let k : ℕ = s - from - past in
        let same : from + (past + k) ≡ s = omega (arith, after) in
        let other = prefix_len_passes (λ x. not (eqb x t)) later k 0 (omega (arith, after, few)) in
        unlike (get_or ts s 0) t (rw (at_later k (omega (arith, after, b)), same) at other)

    pub no_slot : compared (window ts from) t / 2 ^ past ≡ 0 → (s : ℕ) → from + past ≤ s → s < from + 16 → get_or ts s 0 ≢ t
    no_slot none s after b =
        let all = leading_from_mask_l (λ x. eqb x t) later (sym bits_left ∙ none) in
        none_of_others s after (omega (arith, all, left, b, few)) b

    -- the lowest bit is that of the first slot with the tag
    pub record IsFirst (s : ℕ) : Type 0 where
      pub behind : from + past ≤ s
      pub within : s < from + 16
      pub tag : get_or ts s 0 ≡ t
      pub first : (i : ℕ) → from + past ≤ i → i < s → get_or ts i 0 ≢ t

    pub first_slot : (compared (window ts from) t / 2 ^ past ≡ 0 → ⊥) → IsFirst (from + past + count_trailing_zeros 64 (compared (window ts from) t / 2 ^ past))
    first_slot some =
        let p : ℕ → Bool = λ x. eqb x t in
        let set : 0 < mask_l (map p later) = grind (arith, some, bits_left) in
        let at : count_trailing_zeros 64 (compared (window ts from) t / 2 ^ past) ≡ others = ap (count_trailing_zeros 64) bits_left ∙ trailing_mask_l p 64 later (omega (arith, left)) set in
        let within : others < 16 - past = grind (arith, left, none_set p later) in
        let same : from + (past + others) ≡ from + past + others = omega arith in
        rw at (record {
          behind = omega arith;
          within = omega (arith, within);
          tag = like (get_or ts (from + past + others) 0) t (rw (at_later others (omega (arith, within)), same) at (prefix_len_stops (λ x. not (p x)) later 0 (omega (arith, within, left))));
          first = λ m after few. none_of_others m after few (omega (arith, few, within));
        })
