-- A ring after items were appended, one by one, and a ring with clones of another's items.
use Rattle.std.specs.Prelude.{◌≡◌, ℕ, ◌+◌, ◌-◌, ◌<◌, List, [], ◌∷◌, ◌++◌, length, replicate, Option, ◌⊎◌}
use Rattle.std.specs.Iterator.{Drains, Yields}
use Rattle.std.specs.List.{AllZip, FoldsTo}
use Rattle.allocator_api2.specs.Growth.{new_capacity}
use Rattle.allocator_api2.specs.declared.collections.TryReserveError.{TryReserveError}
use Rattle.allocator_api2.specs.declared.collections.TryReserveErrorKind.TheVariants.{AllocError}
use Rattle.aa_ring.specs.Ringed.{Ringed, of_new, with_written, with_room, LacksRoom}

module _ {T A : Type 0} where
  -- the ring `r` after the item `x` of `size` bytes was pushed at the back
  abbrev pub pushed : (size : ℕ) → Ringed T A → T → Ringed T A
  pushed size r x = with_written (with_room size r 1) (r.items ++ x ∷ []) 1

  -- the ring `r` after these items were pushed at the back, in order
  abbrev pub pushed_all : (size : ℕ) → Ringed T A → List T → Ringed T A
  pushed_all size r [] = r
  pushed_all size r (x ∷ xs) = pushed_all size (pushed size r x) xs

  -- `new` is `old` after some capacity was reserved and the items `xs` were pushed
  pub record HasExtended (size : ℕ) (old : Ringed T A) (xs : List T) (new : Ringed T A)
      : Type 0 where
    pub items : new.items ≡ old.items ++ xs
    pub bound : ℕ
    pub put : new ≡ pushed_all size (with_room size old bound) xs

  -- `copy` has a clone of each item of `r`, in a new block for exactly these, with the growth
  -- policy of `r`
  pub record IsCopy (clones : T → T → Type 0) (size : ℕ) (r copy : Ringed T A) : Type 0 where
    pub each : AllZip clones r.items copy.items
    pub capacity : copy.capacity ≡ new_capacity size (length r.items)
    pub growth : copy.growth ≡ r.growth
    pub grown : copy.grown ≡ of_new size (length r.items)
    pub written : copy.written ≡ length r.items

  -- `new` is `old` with a clone of each of `xs` appended
  pub record AppendsClones (clones : T → T → Type 0) (old : Ringed T A) (xs : List T)
      (new : Ringed T A) : Type 0 where
    pub added : List T
    pub each : AllZip clones xs added
    pub put : new ≡ with_written old (old.items ++ added) (length xs)

  -- `new` is `old` with the first items of `n` appended, and not all of them
  pub record AppendsPart (old : Ringed T A) (n : ℕ) (new : Ringed T A) : Type 0 where
    pub added : List T
    pub done : ℕ
    pub fewer : done < n
    pub put : new ≡ with_written old (old.items ++ added) done

  -- `new` is `old` with `k` items appended: clones of `x`, and last `x` itself
  pub record AppendsCopies (clones : T → T → Type 0) (old : Ringed T A) (k : ℕ) (x : T)
      (new : Ringed T A) : Type 0 where
    pub added : List T
    pub each : AllZip clones (replicate (k - 1) x) added
    pub put : new ≡ with_written old (old.items ++ (added ++ x ∷ [])) k

  -- `new` is `old` with `k` results of the closure `f` appended, which was called once for each, in
  -- order, and then is `g`
  pub record AppendsResults {F : Type 0} (step : F → T → F → Type 0) (old : Ringed T A) (k : ℕ)
      (f g : F) (new : Ringed T A) : Type 0 where
    pub results : List T
    pub calls : FoldsTo step f results g
    pub count : length results ≡ k
    pub put : new ≡ with_written old (old.items ++ results) k

  -- `new` is `old` after fewer than `k` items were appended and removed again
  pub record RolledBack (old : Ringed T A) (k : ℕ) (new : Ringed T A) : Type 0 where
    pub done : ℕ
    pub fewer : done < k
    pub put : new ≡ with_written old old.items done

  -- `k` items were not appended to `old`: capacity for them could not be reserved and `new` is
  -- `old`, or `failure` holds and those appended are removed again
  abbrev pub AppendFails : (failure : Type 0) (size : ℕ) → Ringed T A → (k : ℕ)
      → TryReserveError → Ringed T A → Type 0
  AppendFails failure size old k error new =
      (LacksRoom size old k error × (new ≡ old))
      ⊎ (failure × (error.kind ≡ AllocError (length old.items + k))
      × RolledBack (with_room size old k) k new)

module _ {S T A : Type 0} (next_gives : S → Option T → S → Type 0) (size : ℕ) (iter : S)
    (old : Ringed T A) where
  -- `new` is `old` after the items `front` of `iter` were pushed; capacity for the next item could
  -- not be reserved
  pub record FailsAtItem (error : TryReserveError) (new : Ringed T A) : Type 0 where
    pub front : List T
    pub item : T
    pub last : S
    pub yields : Yields next_gives iter (front ++ item ∷ []) last
    pub put : new ≡ pushed_all size old front
    pub lacks : LacksRoom size new 1 error

module _ {S T A : Type 0} (next_gives : S → Option T → S → Type 0) (LowerIs : S → ℕ → Type 0)
    (size : ℕ) (iter : S) (old : Ringed T A) where
  -- `new` is `old` after capacity for the lower bound of `iter` was reserved and all its items were
  -- pushed
  pub record ExtendsByAll (new : Ringed T A) : Type 0 where
    pub bound : ℕ
    pub is_lower : LowerIs iter bound
    pub added : List T
    pub yields : Drains next_gives iter added
    pub put : new ≡ pushed_all size (with_room size old bound) added

  -- capacity for the lower bound of `iter` could not be reserved and `new` is `old`, or capacity
  -- for one of its items could not be reserved
  pub record ExtendFails (error : TryReserveError) (new : Ringed T A) : Type 0 where
    pub bound : ℕ
    pub is_lower : LowerIs iter bound
    pub why : (LacksRoom size old bound error × (new ≡ old))
        ⊎ FailsAtItem next_gives size iter (with_room size old bound) error new
