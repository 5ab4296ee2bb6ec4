-- What callers of the slices of a vector close their goals by: the index that `position` returns,
-- the items of a range, a loop that writes `f x` over each element `x`, and a binary search.
use Rattle.std.proofs.Common.{◌≡◌, ℕ, ◌+◌, ◌-◌, ◌<◌, Bool, true, false, List, [], ◌∷◌, ◌++◌, length, map, take, drop, get_or, slice_set, refl, sym, ◌∙◌, arith, inl, inr, ◌⊎◌, Err, Some, None}
use Rattle.std.specs.Iterator.Runs.{EveryRun}
use Rattle.std.specs.List.{insert, position, position_or_len, range_with_len}
use Rattle.std.specs.List.Sorted.{IsBinarySearchResult, IsNonDecreasing}
use Rattle.std.specs.Ordering.{nat_cmp}
use Rattle.std.proofs.iter.Yields.{nat_range_steps, Range-gives, gives_Drains}
use Rattle.std.proofs.iter.runs.Made.{took}
use Rattle.std.proofs.lemmas.Bool.{cases_lt}
use Rattle.std.proofs.lemmas.Grind.{common_steps}
use Rattle.std.proofs.lemmas.List.{get_or_default, map-id}
use Rattle.std.proofs.lemmas.List.Edits.{map_over_more}
use Rattle.std.proofs.lemmas.List.Sorted.{IsNonDecreasingBy-insert, searched}
use Rattle.std.proofs.lemmas.List.Sums.{fails_before_first, passes_at_first}

-- `position` finds the first element that passes p, or there is none
pub position_cases : {X : Type 0} (p : X → Bool) (xs : List X) → (position p xs ≡ position p xs)
    × (((i : ℕ) × (i < length xs) × (position p xs ≡ Some i)
    × ((x : X) × (get_or xs i x ≡ x) × (p x ≡ true))
    × ((k : ℕ) (d : X) → k < i → p (get_or xs k d) ≡ false))
    ⊎ ((position p xs ≡ None) × ((k : ℕ) (d : X) → k < length xs → p (get_or xs k d) ≡ false)))
position_cases p [] = (refl, inr (refl, λ k d lt. absurd (omega arith)))
position_cases p (y ∷ ys) = (
  refl,
  let xs = y ∷ ys in let i = position_or_len p xs in elim (cases_lt i (length xs)) [
    | inl l ↦
        let x = get_or xs i y in
        inl (
          i,
          l,
          grind (arith, common_steps),
          (x, get_or_default xs i x y l, passes_at_first p xs y l),
          λ k d lt.
              fails_before_first p xs k d lt,
        )
    | inr l ↦ inr (grind (arith, common_steps), λ k d lt. fails_before_first p xs k d (omega arith))
  ],
)

-- the items of a whole run of a range
pub range_items : EveryRun nat_range_steps (λ p. p.whole ≡ true
    → p.items ≡ range_with_len p.from.start (p.from.end - p.from.start))
range_items p _ w =
    let h = took p in
    sym (map-id p.items) ∙ gives_Drains nat_range_steps (λ x. x) p.items
    (range_with_len p.from.start (p.from.end - p.from.start)) p.from (Range-gives p.from)
    ((h.2 w).0, (h.0, h.1, (h.2 w).1))

-- a loop that has written `f x` over the first i elements, and writes over the next
pub map_in_place : {X : Type 0} (f : X → X) (xs : List X) (i : ℕ)
    → (map f (take i xs) ++ drop i xs ≡ map f (take i xs) ++ drop i xs)
    × ((d : X) → i < length xs → get_or (map f (take i xs) ++ drop i xs) i d ≡ get_or xs i d)
    × ((d : X) → i < length xs → slice_set (map f (take i xs) ++ drop i xs) i (f (get_or xs i d))
    ≡ map f (take (i + 1) xs) ++ drop (i + 1) xs)
map_in_place f xs i = (
  refl,
  λ d l. grind (arith, common_steps),
  λ d l. grind (arith, common_steps, map_over_more, get_or_default),
)

-- a number that is inserted before an equal one leaves them sorted
pub found_in_order : (xs : List ℕ) (x at : ℕ) → IsNonDecreasing xs → at < length xs
    → get_or xs at 0 ≡ x → IsNonDecreasing (insert xs at x)
found_in_order xs x at up has is = IsNonDecreasingBy-insert (λ y. y) xs at x up (omega arith)
    (λ k e l. omega (arith, up k at 0 (omega arith) has, get_or_default xs k e 0 (omega arith)))
    (λ k e l h. omega (arith, up at k 0 l h, get_or_default xs k e 0 h))

-- and so does one that is inserted where a binary search says that it is absent
pub absent_in_order : (xs : List ℕ) (x at : ℕ) → IsNonDecreasing xs
    → IsBinarySearchResult (λ y. nat_cmp y x) xs (Err at) → IsNonDecreasing (insert xs at x)
absent_in_order xs x at up is =
    let s = searched xs x (Err at) is (λ a b p q. up a b 0 p q) in
    IsNonDecreasingBy-insert (λ y. y) xs at x up s.0
    (λ k e l. omega (arith, s.1 k l, s.0, get_or_default xs k e 0 (omega arith)))
    (λ k e l h. omega (arith, s.2 k l h, get_or_default xs k e 0 h))

pub ruleset positions = (position_cases)

pub ruleset ranged = (range_items)

pub ruleset mapped = (map_in_place)

pub ruleset searches = (found_in_order, absent_in_order)
