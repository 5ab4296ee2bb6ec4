-- Conversions of a vector into an iterator or a boxed slice, and of a boxed slice into a vector.
use Rattle.std.specs.Prelude.{◌≡◌, ℕ, length}
use Rattle.aa_raw.specs.IntoIter.{Remaining}
use Rattle.aa_raw.specs.Room.{NeedsNewBlock}
use Rattle.aa_raw.specs.declared.collections.Refused.{Refused}
use Rattle.aa_raw.specs.declared.collections.TryReserveErrorKind.TheVariants.{AllocError}
use Rattle.aa_boxed.specs.Slice.{Slice}
use Rattle.aa_vec.specs.Vector.{Vector, len, new_capacity}

module _ {T A : Type 0} where
  -- what remains to an iterator over the items of `v`, in the block of `v`, before its first call
  abbrev pub all_remaining : Vector T A → Remaining T A
  all_remaining v =
      record {
        items = v.items;
        capacity = v.capacity;
        grown = v.grown;
        written = v.written;
        runs = v.runs;
        alloc = v.alloc;
      }

  -- the boxed slice with the items of `v`
  abbrev pub boxed : Vector T A → Slice T A
  boxed v = record { items = v.items; growth = v.growth; grown = v.grown; alloc = v.alloc }

  -- the vector `v`, of elements of `size` bytes, is returned in the error `r`, since a block of its
  -- length could not be allocated
  pub record ReturnsVector (size : ℕ) (v : Vector T A) (r : Refused (Vector T A)) : Type 0 where
    pub source : r.source ≡ v
    pub only_if_allocating : NeedsNewBlock size v.capacity (len v)
    pub number : r.error.kind ≡ AllocError (len v)

  -- `v` has the items of the boxed slice `s`, of `size` bytes each, and no spare capacity
  pub record IsUnboxed (size : ℕ) (s : Slice T A) (v : Vector T A) : Type 0 where
    pub items : v.items ≡ s.items
    pub capacity : v.capacity ≡ new_capacity size (length s.items)
    pub growth : v.growth ≡ s.growth
    pub grown : v.grown ≡ s.grown
    pub alloc : v.alloc ≡ s.alloc
