-- Two items of a ring that are exchanged.
use Rattle.std.proofs.Common.{rules, inl, inr, ◌≡◌, ◌≢◌, ℕ, zero, suc, ◌+◌, ◌-◌, ◌<◌, ◌≤◌, List, [], ◌∷◌, length, get_or, Option, Some, None, refl, sym, ap, ◌∙◌, arith, length-set}
use Rattle.std.specs.Prelude.{slice_get, slice_set}
use Rattle.std.specs.List.{swap}
use Rattle.std.proofs.lemmas.Bool.Decides.{nat_tests}
use Rattle.std.proofs.lemmas.Option.{get_or_from_slice_get}
use Rattle.allocator_api2.specs.Places.{IsFilled, run}
use Rattle.allocator_api2.proofs.Blocks.{two_runs, slice_get-front, slice_get-after, slice_get-run_from, length-run}
use Rattle.aa_ring.specs.RingInner.{HasParts, place_at}
use Rattle.aa_ring.proofs.Rings.{parts, set_first, has-set_first, set_other, has-set_other}
use Rattle.aa_ring.proofs.Searching.{split}

at-first : (f n i : ℕ) → i < n → place_at f n i ≡ f + i
at-first f n i few = grind (arith, nat_tests)

at-other : (f n i : ℕ) → n ≤ i → place_at f n i ≡ i - n
at-other f n i past = grind (arith, nat_tests)

module _ {X : Type 0} where
  -- an item that is written where it is
  set-same : (xs : List X) (i : ℕ) (d : X) → slice_set xs i (get_or xs i d) ≡ xs
  set-same [] i d = refl
  set-same (x ∷ xs) zero d = refl
  set-same (x ∷ xs) (suc i) d = ap (λ ys. x ∷ ys) (set-same xs i d)

  pub swap-same : (xs : List X) (i j : ℕ) → i ≡ j → xs ≡ swap xs i j
  swap-same [] i j e = refl
  swap-same (d ∷ ys) i j e =
      let xs : List X = d ∷ ys in
      sym ((λ t. slice_set (slice_set xs (e t) (get_or xs j d)) j (get_or xs (e t) d)) ∙ ap (λ zs. slice_set zs j (get_or xs j d)) (set-same xs j d) ∙ set-same xs j d)

  pub swap-is : (xs : List X) (i j : ℕ) (x y : X) → slice_get xs i ≡ Some x → slice_get xs j ≡ Some y → slice_set (slice_set xs i y) j x ≡ swap xs i j
  swap-is [] i j x y e f = cc
  swap-is (d ∷ ys) i j x y e f =
      let xs : List X = d ∷ ys in
      λ t. slice_set (slice_set xs i (sym (get_or_from_slice_get xs j y d f) t)) j (sym (get_or_from_slice_get xs i x d e) t)

  module _ (cs : List (Option X)) (f n w i : ℕ) (h : HasParts cs f n w) (few : i < n + w) where
    pub filled-at : IsFilled cs (place_at f n i)
    filled-at =
        elim (split i n) [
          | inl first ↦ rw (at-first f n i first) (search (rules, two_runs))
          | inr past ↦ rw (at-other f n i past) (search (rules, two_runs))
        ]

    get-at : (x : X) → get_or cs (place_at f n i) None ≡ Some x → slice_get (parts cs f n w) i ≡ Some x
    get-at x e =
        let long : length (run cs f n) ≡ n = length-run cs f n h.first in
        elim (split i n) [
          | inl first ↦ slice_get-front (run cs f n) (run cs 0 w) i (omega (arith, first, long)) ∙ slice_get-run_from cs f n i x h.first first (ap (λ p. get_or cs p None) (sym (at-first f n i first)) ∙ e)
          | inr past ↦
              let start : 0 + (i - n) ≡ place_at f n i = (let z : 0 + (i - n) ≡ i - n = omega arith in z) ∙ sym (at-other f n i past) in
              slice_get-after (run cs f n) (run cs 0 w) i (omega (arith, past, long)) ∙ ap (λ k. slice_get (run cs 0 w) (i - k)) long
              ∙ slice_get-run_from cs 0 w (i - n) x h.others (omega (arith, past, few)) (ap (λ p. get_or cs p None) start ∙ e)
        ]

    set-at : (x : X) → parts (slice_set cs (place_at f n i) (Some x)) f n w ≡ slice_set (parts cs f n w) i x
    set-at x =
        elim (split i n) [
          | inl first ↦ rw (at-first f n i first) (set_first cs f n w h x i first)
          | inr past ↦ rw (at-other f n i past) (set_other cs f n w h x i past (omega (arith, past, few)))
        ]

    has-set-at : (x : X) → HasParts (slice_set cs (place_at f n i) (Some x)) f n w
    has-set-at x =
        elim (split i n) [
          | inl first ↦ rw (at-first f n i first) (has-set_first cs f n w h x i first)
          | inr past ↦ rw (at-other f n i past) (has-set_other cs f n w h x i past (omega (arith, past, few)))
        ]

    pub apart-at : (j : ℕ) → j < n + w → i ≢ j → place_at f n i ≢ place_at f n j
    apart-at j others unequal same = let low = h.apart in absurd (grind (arith, nat_tests, unequal, same, low, few, others))

  module _ (cs : List (Option X)) (f n w i j : ℕ) (h : HasParts cs f n w) (first : i < n + w) (second : j < n + w) (x y : X) where
    -- the places after the exchange
    abbrev exchanged-places : List (Option X)
    exchanged-places = slice_set (slice_set cs (place_at f n i) (Some y)) (place_at f n j) (Some x)

    pub exchanged-items : get_or cs (place_at f n i) None ≡ Some x → get_or cs (place_at f n j) None ≡ Some y → parts exchanged-places f n w ≡ swap (parts cs f n w) i j
    exchanged-items e d =
        set-at (slice_set cs (place_at f n i) (Some y)) f n w j (has-set-at cs f n w i h first y) second x
        ∙ ap (λ zs. slice_set zs j x) (set-at cs f n w i h first y)
        ∙ swap-is (parts cs f n w) i j x y (get-at cs f n w i h first x e) (get-at cs f n w j h second y d)

    pub has-exchanged : HasParts exchanged-places f n w
    has-exchanged = has-set-at (slice_set cs (place_at f n i) (Some y)) f n w j (has-set-at cs f n w i h first y) second x

    pub length-exchanged : length exchanged-places ≡ length cs
    length-exchanged = length-set (slice_set cs (place_at f n i) (Some y)) (place_at f n j) (Some x) ∙ length-set cs (place_at f n i) (Some y)
