-- A vector with a tail, that is elements in the places after its items, while a call removes a
-- range and closes the gap.
use Rattle.std.specs.Prelude.{◌≡◌, ℕ, ◌+◌, ◌-◌, ◌≤◌, List, ◌++◌, take, drop, replicate, map, Option, Some, None, is_some}
use Rattle.std.specs.List.{count_by}
use Rattle.aa_raw.specs.Places.{IsRun, run}
use Rattle.aa_vec.specs.Vector.{Vector, len, Becomes, run_count, moved_over}

-- how many of the places of `cs` from the index `from` on hold values
unfoldable pub count_from : {X : Type 0} → List (Option X) → (from : ℕ) → ℕ
count_from cs from = count_by is_some (drop from cs)

module _ {T A : Type 0} where
  -- how many of the places after the items of `v` hold values
  abbrev pub count_spare : Vector T A → ℕ
  count_spare v = count_from v.spare 0

  -- `v` has a tail of `n` elements after its items and a gap of `gap` places
  abbrev pub HasTail : Vector T A → (gap n : ℕ) → Type 0
  HasTail v gap n = (len v + gap + n ≤ v.capacity) × IsRun (drop gap v.spare) 0 n

  -- the `n` elements of the tail of `v` after the gap
  abbrev pub tail_items : Vector T A → (gap n : ℕ) → List T
  tail_items v gap n = run (drop gap v.spare) 0 n

  -- `v` with the places `places` after its items
  abbrev pub with_spare : Vector T A → List (Option T) → Vector T A
  with_spare v places = record v { spare = places }

  -- `new` is `old` with the items from the index `at` on set apart as the tail
  pub record SetsTail (old : Vector T A) (at : ℕ) (new : Vector T A) : Type 0 where
    pub becomes : Becomes old (take at old.items) 0 0 new
    pub has_tail : HasTail new 0 (len old - at)
    pub elements : tail_items new 0 (len old - at) ≡ drop at old.items
    pub spare : new.spare ≡ map Some (drop at old.items) ++ old.spare

  -- `new` is `old` after a call that moved the `n` elements after the gap down to the items, of
  -- which they are the last now
  abbrev pub ShiftsDown : (old : Vector T A) → (gap n : ℕ) → (new : Vector T A) → Type 0
  ShiftsDown old gap n new =
      let moved = moved_over gap n in
      Becomes old (old.items ++ tail_items old gap n) moved (run_count moved) new

  -- `new` is `old` after a call that moved the `n` elements after the gap down, and the gap is
  -- before the elements that followed them
  pub record ClosesGap (old : Vector T A) (gap n : ℕ) (new : Vector T A) : Type 0 where
    pub becomes : ShiftsDown old gap n new
    pub spare : drop gap new.spare ≡ drop n (drop gap old.spare)
    pub few : count_spare new + n ≤ count_spare old

  -- `new` is `old` with the elements `left` in place of the `n` elements after the gap, and
  -- otherwise unchanged
  pub record LeavesInTail (old : Vector T A) (gap n : ℕ) (left : List T)
      (new : Vector T A) : Type 0 where
    pub same : new ≡ with_spare old new.spare
    pub below : take gap new.spare ≡ take gap old.spare
    pub spare : drop gap new.spare ≡ map Some left ++ drop n (drop gap old.spare)

  -- `new` is `old` without the `n` elements after the gap, whose places are empty now, and
  -- otherwise unchanged
  pub record DropsTail (old : Vector T A) (gap n : ℕ) (new : Vector T A) : Type 0 where
    pub same : new ≡ with_spare old new.spare
    pub spare : drop gap new.spare ≡ replicate n None ++ drop n (drop gap old.spare)
    pub few : count_spare new + n ≤ count_spare old

  -- `new` is `old` after a call that dropped `n` elements of the tail, and moved down the `m` from
  -- the place `end` on: all of them are gone from the places after the items
  pub record DropsAndCloses (old : Vector T A) (n end m : ℕ) (new : Vector T A) : Type 0 where
    pub becomes : ShiftsDown old end m new
    pub few : count_spare new + (n + m) ≤ count_spare old

  -- `new` is `old` after a call that moved down the `n` elements after the gap, and then the `m`
  -- from the place `end` on; they are the last items now
  abbrev pub ClosesTwoGaps : (old : Vector T A) → (gap n end m : ℕ) → (new : Vector T A) → Type 0
  ClosesTwoGaps old gap n end m new =
      let first = moved_over gap n in
      let second = moved_over (end - n) m in
      Becomes old (old.items ++ (tail_items old gap n ++ tail_items old end m))
      (first + second) (run_count first + run_count second) new
