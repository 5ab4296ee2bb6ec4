-- What the runs of a ring's iterators return.
use Rattle.std.proofs.Common.{inl, inr, ◌≡◌, ℕ, ◌+◌, ◌-◌, ◌≤◌, List, ◌++◌, length, take, drop, sym, ap, ◌∙◌, arith, length-append, length-drop, length-take}
use Rattle.std.specs.Prelude.{min, slice_range}
use Rattle.std.proofs.Math.Seq.{drop-append-add, take-append-add}
use Rattle.std.proofs.lemmas.List.{append-nil, drop-append-le, take-append-le, take_all}
use Rattle.aa_ring.proofs.Searching.{split}
use Rattle.std.proofs.iter.runs.Sources.{from_front, from_back, as_is, as_is_back}
use Rattle.std.specs.Map.Iter.{TakesFirst, TakesLast, ShowsInOrder, ShowsInReverse, GivesInOrder, GivesInReverse}

module _ {A X : Type 0} (view : A → X) where
  pub shown-in_order : ShowsInOrder view
  shown-in_order = from_front (TakesFirst view) view (λ left. left) (λ _ _ e. ap length e.0)
      (λ _ _ _ e. e)

  pub shown-in_reverse : ShowsInReverse view
  shown-in_reverse = from_back (TakesLast view) view (λ left. left) (λ _ _ e. ap length e.0)
      (λ _ _ _ e. e)

module _ {X : Type 0} where
  pub given-in_order : GivesInOrder X
  given-in_order run trigger = as_is run run.from (shown-in_order (λ x. x) run trigger)

  pub given-in_reverse : GivesInReverse X
  given-in_reverse run trigger = as_is_back run run.from (shown-in_reverse (λ x. x) run trigger)

module _ {X : Type 0} (xs ys : List X) (i j : ℕ) where
  -- the elements of a range of two lists in line: those in the first, and those in the second
  abbrev pub parts : List X
  parts = slice_range xs (min i (length xs)) (min j (length xs)) ++ slice_range ys (i - length xs) (j - length xs)

  both : min i (length xs) ≡ i → min j (length xs) ≡ length xs → i ≤ length xs → length xs ≤ j → parts ≡ slice_range (xs ++ ys) i j
  both a b first second =
      let n : ℕ = length xs in let z : i - n ≡ 0 = omega arith in
      let rest : take (n - i) (drop i xs) ≡ drop i xs = take_all (n - i) (drop i xs) (omega (arith, length-drop i xs)) in
      let long : length (drop i xs) + (j - n) ≡ j - i = omega (arith, length-drop i xs) in
      let others : j - n - (i - n) ≡ j - n = omega arith in
      (λ t. take (b t - a t) (drop (a t) xs) ++ take (others t) (drop (z t) ys))
      ∙ ap (λ zs. zs ++ take (j - n) ys) rest
      ∙ sym (ap (λ zs. take (j - i) zs) (drop-append-le i xs ys first) ∙ ap (λ k. take k (drop i xs ++ ys)) (sym long) ∙ take-append-add (drop i xs) ys (j - n))

  in-first : min i (length xs) ≡ i → min j (length xs) ≡ j → i ≤ j → j ≤ length xs → parts ≡ slice_range (xs ++ ys) i j
  in-first a b order first =
      let n : ℕ = length xs in let z : j - n ≡ 0 = omega arith in
      let none : j - n - (i - n) ≡ 0 = omega arith in
      (λ t. take (b t - a t) (drop (a t) xs) ++ take (none t) (drop (i - n) ys)) ∙ append-nil (take (j - i) (drop i xs))
      ∙ sym (ap (λ zs. take (j - i) zs) (drop-append-le i xs ys (omega arith)) ∙ take-append-le (j - i) (drop i xs) ys (omega (arith, length-drop i xs)))

  in-second : min i (length xs) ≡ length xs → min j (length xs) ≡ length xs → i ≤ j → length xs ≤ i → parts ≡ slice_range (xs ++ ys) i j
  in-second a b order second =
      let n : ℕ = length xs in let none : n - n ≡ 0 = omega arith in
      let same : j - n - (i - n) ≡ j - i = omega arith in let whole : n + (i - n) ≡ i = omega arith in
      (λ t. take (b t - a t) (drop (a t) xs) ++ take (same t) (drop (i - n) ys)) ∙ ap (λ k. take k (drop n xs) ++ take (j - i) (drop (i - n) ys)) none
      ∙ sym (ap (λ k. take (j - i) (drop k (xs ++ ys))) (sym whole) ∙ ap (take (j - i)) (drop-append-add xs ys (i - n)))

  pub ranged-in_line : i ≤ j → parts ≡ slice_range (xs ++ ys) i j
  ranged-in_line order =
      elim (split j (length xs)) [
        | inl low ↦ in-first (omega arith) (omega arith) order (omega (arith, low))
        | inr high ↦ elim (split i (length xs)) [
          | inl first ↦ both (omega arith) (omega arith) (omega (arith, first)) high
          | inr second ↦ in-second (omega arith) (omega arith) order second
        ]
      ]

pub ruleset ranged = (ranged-in_line, length-append, length-drop, length-take)
