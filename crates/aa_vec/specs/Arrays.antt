-- Conversions between arrays and vectors, and the flattening of vectors of arrays.
use Rattle.std.specs.Prelude.{◌≡◌, ℕ, ◌*◌, ◌<◌, ◌≤◌, List, length}
use Rattle.std.specs.List.{flat_map}
use Rattle.aa_raw.specs.Growth.{usize_max}
use Rattle.aa_raw.specs.Errors.{AllocationFails, IsErrorFor}
use Rattle.aa_raw.specs.declared.collections.TryReserveError.{TryReserveError}
use Rattle.aa_raw.specs.declared.collections.TryReserveErrorKind.TheVariants.{CapacityOverflow}
use Rattle.aa_raw.specs.declared.raw_vec.Growth.TheVariants.{Doubling}
use Rattle.aa_boxed.specs.Boxed.{Boxed}
use Rattle.aa_vec.specs.Vector.{Vector, len, new_capacity, of_new}

-- the lists of `xss`, concatenated in order
abbrev pub flattened : {T : Type 0} → List (List T) → List T
flattened xss = flat_map (λ xs. xs) xss

module _ {T A : Type 0} where
  -- capacity for all elements of `v`, whose arrays have `n` elements of `size` bytes each, could
  -- not be allocated, with this `error`, or the clone of the allocator failed, which `sure`
  -- excludes
  pub record LacksRoomForFlattened (sure : Type 0) (n size : ℕ) (v : Vector (List T) A)
      (error : TryReserveError) : Type 0 where
    pub overflow : usize_max < len v * n → error.kind ≡ CapacityOverflow
    pub cause : len v * n ≤ usize_max → sure → AllocationFails (v.capacity * n) size error
    pub number : IsErrorFor error (new_capacity size (v.capacity * n))

  -- `v` has the elements, of `size` bytes each, of the array in `b`, a new block without spare
  -- capacity, and a clone of the allocator
  pub record IsUnboxedArray (clones : A → A → Type 0) (size : ℕ) (b : Boxed (List T) A)
      (v : Vector T A) : Type 0 where
    pub items : v.items ≡ b.value
    pub capacity : v.capacity ≡ new_capacity size (length b.value)
    pub growth : v.growth ≡ Doubling
    pub grown : v.grown ≡ of_new size (length b.value)
    pub alloc : clones b.alloc v.alloc
