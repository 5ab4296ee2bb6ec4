-- A gap buffer after the items of an iterator were inserted at its cursor, and one with clones of
-- another's elements.
use Rattle.std.specs.Prelude.{◌≡◌, ℕ, ◌+◌, List, [], ◌∷◌, ◌++◌, length, map, Option, ◌⊎◌}
use Rattle.std.specs.Iterator.{Count, Drains, Yields}
use Rattle.std.specs.Iterator.SizeHint.{IsWithinCount}
use Rattle.std.specs.List.{AllZip}
use Rattle.aa_raw.specs.Growth.{new_capacity}
use Rattle.aa_raw.specs.Growths.{of_new}
use Rattle.aa_raw.specs.declared.collections.TryReserveError.{TryReserveError}
use Rattle.aa_gap.specs.Buffer.{Buffer, len, gap, moved_over, run_count, with_room, with_parts, LacksRoom}
use Rattle.aa_gap.specs.Editing.{Edits}
use Rattle.aa_gap.specs.declared.gap_buffer.Edit.TheVariants.{Insert}

module _ {T A : Type 0} where
  -- the edits that insert the elements `xs` of `size` bytes were applied to `old`, one after
  -- another, which is `new`
  abbrev pub Inserts : (size : ℕ) → (old : Buffer T A) → List T → (new : Buffer T A) → Type 0
  Inserts size old xs new = Edits size old (map Insert xs) new

  -- `new` is `old` with the items `xs` inserted before the cursor
  abbrev pub HasInserted : Buffer T A → List T → Buffer T A → Type 0
  HasInserted old xs new = (new.before ≡ old.before ++ xs) × (new.after ≡ old.after)

  -- `copy` has a clone of each element of `b`, the cursor at the same position, and capacity for
  -- exactly these. Each clone was written once, and those that the cursor passed once more if there
  -- is a gap
  pub record IsCopy (clones : T → T → Type 0) (size : ℕ) (b copy : Buffer T A) : Type 0 where
    pub before : AllZip clones b.before copy.before
    pub after : AllZip clones b.after copy.after
    pub capacity : copy.capacity ≡ new_capacity size (len b)
    pub growth : copy.growth ≡ b.growth
    pub grown : copy.grown ≡ of_new size (len b)
    pub written : copy.written ≡ len b + moved_over (gap copy) (length b.after)
    pub runs : copy.runs ≡ len b + run_count (moved_over (gap copy) (length b.after))

  -- `new` is `old` with a clone of each of `xs` inserted before the cursor, in free places
  pub record InsertsClones (clones : T → T → Type 0) (old : Buffer T A) (xs : List T)
      (new : Buffer T A) : Type 0 where
    pub added : List T
    pub each : AllZip clones xs added
    pub parts : new
        ≡ record (with_parts old (old.before ++ added) old.after) {
          written = old.written + length xs;
          runs = old.runs + length xs;
        }

module _ {S T A : Type 0} (next_gives : S → Option T → S → Type 0) (size : ℕ) (iter : S)
    (old : Buffer T A) where
  -- `new` is `old` after the items `front` of `iter` were inserted, and then growth for the next
  -- item failed with `error`
  pub record FailsAtItem (error : TryReserveError) (new : Buffer T A) : Type 0 where
    pub front : List T
    pub item : T
    pub last : S
    pub yields : Yields next_gives iter (front ++ item ∷ []) last
    pub done : Inserts size old front new
    pub lacks : LacksRoom size new 1 error

module _ {S T A : Type 0} (next_gives : S → Option T → S → Type 0) (remaining : S → Count)
    (size : ℕ) (iter : S) (old : Buffer T A) where
  -- `new` is `old` after capacity for the lower bound of `iter` was reserved and all its items were
  -- inserted
  pub record ExtendsByAll (new : Buffer T A) : Type 0 where
    pub bound : ℕ
    pub is_lower : IsWithinCount bound (remaining iter)
    pub added : List T
    pub yields : Drains next_gives iter added
    pub done : Inserts size (with_room size old bound) added new

  -- capacity for the lower bound of `iter` could not be reserved and `new` is `old`, or growth for
  -- one of its items failed
  pub record ExtendFails (error : TryReserveError) (new : Buffer T A) : Type 0 where
    pub bound : ℕ
    pub is_lower : IsWithinCount bound (remaining iter)
    pub why : (LacksRoom size old bound error × (new ≡ old))
        ⊎ FailsAtItem next_gives size iter (with_room size old bound) error new
