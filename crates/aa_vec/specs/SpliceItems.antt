-- A range of a vector that is replaced by the items of an iterator, one by one, in capacity
-- reserved by its lower bounds.
use Rattle.std.specs.Prelude.{◌≡◌, ℕ, ◌+◌, ◌-◌, ◌*◌, ◌^◌, min, ◌<◌, ◌≤◌, List, [], ◌++◌, length, None, if◌then◌else◌, ◌==◌, ◌⊎◌, Result, Ok, Err, IfErr, OnOk, IsOk}
use Rattle.std.specs.Iterator.{IsFinite, Yields, Drains, size as count}
use Rattle.std.specs.Iterator.Runs.{WholeRun}
use Rattle.std.specs.declared.iter.Iterator.{Ghosts}
use Rattle.aa_raw.specs.declared.collections.TryReserveError.{TryReserveError}
use Rattle.aa_raw.specs.declared.raw_vec.Growth.TheVariants.{Doubling}
use Rattle.aa_raw.specs.Growth.{amortized, min_capacity, new_capacity}
use Rattle.aa_raw.specs.Errors.{IsErrorFor}
use Rattle.aa_vec.specs.Vector.{Vector, HasRoom, SameBlock, LacksRoom, run_count, with_room}
use Rattle.aa_vec.specs.Extend.{Extends, Takes}

-- a vector from which a range was taken, in its block: the elements before the range, how many
-- places it has, and the elements after it
pub record Gapped (T A : Type 0) : Type 0 where
  pub block : Vector T A
  pub head : List T
  pub gap : ℕ
  pub tail : List T

-- how often the tail is moved where `n` items come, and `h` is the lower bound once they fill the
-- gap: up, where capacity is reserved for the `h` items, and where more come; and down, where a gap
-- remains in the end
abbrev pub tail_moves : (gap h n : ℕ) → ℕ
tail_moves gap h n =
    if gap - n == 0
    then run_count h + run_count (n - gap - h) + run_count (h - (n - gap))
    else 1

module _ {T A : Type 0} where
  -- collecting `others` failed, or they did not fit in `v`. They are collected in a temporary
  -- vector over a clone of the allocator, as an extension of a new vector takes them. Either the
  -- clone failed, with the number that the first growth of that vector would have requested, or a
  -- growth of that vector failed; or they are all that remain, and there was no capacity for
  -- exactly them in `v`. `fails` says that the clone may fail, and `whole` that they are all
  abbrev pub LacksOthers : (fails whole : Type 0) (size : ℕ) (lower : ℕ → ℕ) → Vector T A → List T
      → TryReserveError → Type 0
  LacksOthers fails whole size lower v others error =
      ((fails × let more = min (lower (length others - 1) + 1) (2 ^ 64 - 1) in
      IsErrorFor error (amortized Doubling 0 more (min_capacity size)))
      ⊎ ((made : Vector T A) × (full : Vector T A) × (made.capacity ≡ new_capacity size 0)
      × (made.growth ≡ Doubling) × Extends size lower made [] others (Err error) full))
      ⊎ (whole × LacksRoom size v (length others) error)

  -- the vector `v` with these elements before the range, so many places in it, and these elements
  -- after it
  abbrev pub gapped : Vector T A → (head : List T) → (gap : ℕ) → (tail : List T) → Gapped T A
  gapped v head gap tail = record { block = v; head = head; gap = gap; tail = tail }

  module _ (size : ℕ) (lower : ℕ → ℕ) (old : Gapped T A) (added : List T) where
    -- `new` has all of `added` in place of the range. Without a tail they were appended to the
    -- head, as by an extension. With one, fewer items than the range had elements need no capacity;
    -- else it was reserved for the lower bound once the gap was full, and then for the others
    pub record SplicesAll (new : Vector T A) : Type 0 where
      pub items : new.items ≡ old.head ++ (added ++ old.tail)
      pub at_end : old.tail ≡ [] → Extends size lower old.block old.head added (Ok tt) new
      pub in_gap : 0 < length old.tail → length added < old.gap → SameBlock old.block new
      pub beyond : 0 < length old.tail → old.gap ≤ length added
          → let n = length old.head + old.gap + length old.tail in
          let bound = lower (length added - old.gap) in
          SameBlock (with_room size (with_room size old.block n bound) (n + bound)
          (length added - old.gap - bound)) new

    -- with a tail, `new` has `front`, a beginning of `added`, in place of the range. Either it
    -- fills the gap, and there was no capacity for the lower bound then; or it also fills the
    -- capacity reserved for that, and the growth for the others failed
    pub record SplicesFront (fails whole : Type 0) (error : TryReserveError)
        (new : Vector T A) : Type 0 where
      pub front : List T
      pub others : List T
      pub begins : added ≡ front ++ others
      pub items : new.items ≡ old.head ++ (front ++ old.tail)
      pub why : let bound = lower (length added - old.gap) in
          ((length front ≡ old.gap) × SameBlock old.block new × LacksRoom size new bound error)
          ⊎ ((length front ≡ old.gap + bound)
          × SameBlock (with_room size old.block (length old.head + old.gap + length old.tail) bound)
          new
          × (0 < length others) × LacksOthers fails whole size lower new others error)

    -- `new` has a beginning of `added` in place of the range, and the growth for the others failed
    abbrev pub SpliceFails : (fails whole : Type 0) → TryReserveError → Vector T A → Type 0
    SpliceFails fails whole error new =
        ((old.tail ≡ []) × Extends size lower old.block old.head added (Err error) new)
        ⊎ ((0 < length old.tail) × SplicesFront fails whole error new)

  -- each of the items of `new`, but for `kept` of them, was written once, and each of `n` of these
  -- at most twice
  pub record PutsWithin (old : Vector T A) (kept n : ℕ) (new : Vector T A) : Type 0 where
    pub written : let placed = length new.items - kept in
        new.written ≤ old.written + (placed + 2 * n)
    pub runs : let placed = length new.items - kept in new.runs ≤ old.runs + (placed + 2)

-- `new` is `old` after a call with this result that put items of `iter` in place of the range, in
-- capacity requested by its lower bounds. `fails` says that a clone of the allocator may fail
pub record Replaced {S T A : Type 0} (g : Ghosts S T) (LowerIs : S → ℕ → Type 0) (fails : Type 0)
    (size : ℕ) (iter : S) (old : Gapped T A) (result : Result Unit TryReserveError)
    (new : Vector T A) : Type 0 where
  pub items : OnOk result
      ((xs : List T) × Drains g.next_gives iter xs × (new.items ≡ old.head ++ (xs ++ old.tail)))
  pub runs : OnOk result
      (WholeRun g.next_gives iter (λ p. new.items ≡ old.head ++ (p.items ++ old.tail)))
  pub fits_gap : count (g.remaining iter) < old.gap → IsOk result
  -- if the lower bound is 0 when no item remains
  pub fits_full : ((s : S) (n : ℕ) → IsFinite (g.remaining s) → count (g.remaining s) ≡ 0
      → LowerIs s n → n ≡ 0) → count (g.remaining iter) ≤ old.gap → IsOk result
  pub fits_end : old.tail ≡ [] → HasRoom old.block (count (g.remaining iter)) → IsOk result
  -- if the lower bound is `h` once the range is full
  pub fits_lower : (h : ℕ)
      → ((xs : List T) (t : S) (n : ℕ) → Yields g.next_gives iter xs t → length xs ≡ old.gap
      → LowerIs t n → n ≡ h)
      → count (g.remaining iter) ≤ old.gap + h
      → length old.head + old.gap + length old.tail + h ≤ old.block.capacity → IsOk result
  pub spliced : OnOk result (Takes g.next_gives LowerIs iter (λ lower xs last.
      ((end : S) × g.next_gives last None end) × SplicesAll size lower old xs new
      × (new.written ≡ old.block.written + (length xs
      + tail_moves old.gap (lower (length xs - old.gap)) (length xs) * length old.tail))))
  pub writes : let n = length old.tail in
      PutsWithin old.block (length old.block.items + n) n new
  pub error : IfErr result (λ e. Takes g.next_gives LowerIs iter (λ lower xs last.
      SpliceFails size lower old xs fails ((end : S) × g.next_gives last None end) e new))
