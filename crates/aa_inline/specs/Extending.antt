-- A small vector after items were appended, one by one, and one with clones.
use Rattle.std.specs.Prelude.{◌≡◌, ℕ, ◌+◌, ◌-◌, ◌<◌, List, [], ◌∷◌, ◌++◌, length, take, drop, replicate, Option, ◌⊎◌}
use Rattle.std.specs.Iterator.{Drains, Yields}
use Rattle.std.specs.List.{AllZip, FoldsTo, fold, slice_range}
use Rattle.allocator_api2.specs.declared.collections.TryReserveError.{TryReserveError}
use Rattle.allocator_api2.specs.declared.collections.TryReserveErrorKind.TheVariants.{AllocError}
use Rattle.aa_inline.specs.Inlined.{Inlined, in_place, with_written, with_room, LacksRoom}

-- the list `xs` with the items from place `n` on moved before the one at `i`, which is at most `n`
abbrev pub with_tail_at : {T : Type 0} → (i n : ℕ) → List T → List T
with_tail_at i n xs = (take i xs ++ drop n xs) ++ slice_range xs i n

module _ {T A : Type 0} where
  -- the small vector `s` after the item `x` of `size` bytes was pushed
  abbrev pub pushed : (size N : ℕ) → Inlined T A → T → Inlined T A
  pushed size N s x = with_written (with_room size N s 1) (s.items ++ x ∷ []) 1

  -- the small vector `s` after the items `xs` were pushed, in order
  abbrev pub pushed_all : (size N : ℕ) → Inlined T A → List T → Inlined T A
  pushed_all size N s xs = fold (pushed size N) s xs

  -- `new` is `old` with a clone of each of `xs` appended
  pub record AppendsClones (clones : T → T → Type 0) (old : Inlined T A) (xs : List T)
      (new : Inlined T A) : Type 0 where
    pub added : List T
    pub each : AllZip clones xs added
    pub put : new ≡ with_written old (old.items ++ added) (length xs)

  -- `new` is `old` with `k` items appended: clones of `x`, and last `x` itself
  pub record AppendsCopies (clones : T → T → Type 0) (old : Inlined T A) (k : ℕ) (x : T)
      (new : Inlined T A) : Type 0 where
    pub added : List T
    pub each : AllZip clones (replicate (k - 1) x) added
    pub put : new ≡ with_written old (old.items ++ (added ++ x ∷ [])) k

  -- `new` is `old` with `k` results of the closure `f` appended, which was called once for each, in
  -- order, and then is `g`
  pub record AppendsResults {F : Type 0} (step : F → T → F → Type 0) (old : Inlined T A) (k : ℕ)
      (f g : F) (new : Inlined T A) : Type 0 where
    pub results : List T
    pub calls : FoldsTo step f results g
    pub count : length results ≡ k
    pub put : new ≡ with_written old (old.items ++ results) k

  -- `new` is `old` with the first items of `n` appended, and not all of them
  pub record AppendsPart (old : Inlined T A) (n : ℕ) (new : Inlined T A) : Type 0 where
    pub added : List T
    pub done : ℕ
    pub fewer : done < n
    pub put : new ≡ with_written old (old.items ++ added) done

  -- `new` is `old` after fewer than `n` items were appended and removed again
  pub record RolledBack (old : Inlined T A) (n : ℕ) (new : Inlined T A) : Type 0 where
    pub done : ℕ
    pub fewer : done < n
    pub put : new ≡ with_written old old.items done

  -- `s` is a new small vector over `a` with a clone of each of `xs`; capacity for all of them was
  -- reserved at once
  pub record IsMadeOf (clones : T → T → Type 0) (size N : ℕ) (xs : List T) (a : A)
      (s : Inlined T A) : Type 0 where
    pub each : AllZip clones xs s.items
    pub put : s ≡ with_written (with_room size N (in_place [] a) (length xs)) s.items (length xs)

  -- capacity in `s` for `n` more items could not be reserved, or `failure` holds and the number of
  -- `error` is `n`
  abbrev pub CloningFails : (failure : Type 0) (size N : ℕ) → Inlined T A → (n : ℕ)
      → TryReserveError → Type 0
  CloningFails failure size N s n error =
      LacksRoom size N s n error ⊎ (failure × (error.kind ≡ AllocError n))

  -- `n` items were not appended to `old`: capacity for them could not be reserved and `new` is
  -- `old`, or `failure` holds and those appended are removed again
  abbrev pub AppendFails : (failure : Type 0) (size N : ℕ) → Inlined T A → (n : ℕ)
      → TryReserveError → Inlined T A → Type 0
  AppendFails failure size N old n error new =
      (LacksRoom size N old n error × (new ≡ old))
      ⊎ (failure × (error.kind ≡ AllocError (length old.items + n))
      × RolledBack (with_room size N old n) n new)

module _ {S T A : Type 0} (next_gives : S → Option T → S → Type 0) (size N : ℕ) (iter : S)
    (old : Inlined T A) where
  -- `new` is `old` after the items `front` of `iter` were pushed; capacity for the next item could
  -- not be reserved
  pub record FailsAtItem (error : TryReserveError) (new : Inlined T A) : Type 0 where
    pub front : List T
    pub item : T
    pub last : S
    pub yields : Yields next_gives iter (front ++ item ∷ []) last
    pub put : new ≡ pushed_all size N old front
    pub lacks : LacksRoom size N new 1 error

module _ {S T A : Type 0} (next_gives : S → Option T → S → Type 0) (LowerIs : S → ℕ → Type 0)
    (size N : ℕ) (iter : S) (old : Inlined T A) where
  -- `new` is `old` after capacity for the lower bound of `iter` was reserved and all its items were
  -- pushed
  pub record ExtendsByAll (new : Inlined T A) : Type 0 where
    pub bound : ℕ
    pub is_lower : LowerIs iter bound
    pub added : List T
    pub yields : Drains next_gives iter added
    pub put : new ≡ pushed_all size N (with_room size N old bound) added

  -- capacity for the lower bound of `iter` could not be reserved and `new` is `old`, or capacity
  -- for one of its items could not be reserved
  pub record ExtendFails (error : TryReserveError) (new : Inlined T A) : Type 0 where
    pub bound : ℕ
    pub is_lower : LowerIs iter bound
    pub why : (LacksRoom size N old bound error × (new ≡ old))
        ⊎ FailsAtItem next_gives size N iter (with_room size N old bound) error new
