-- Conversions of arrays to boxed slices, and of boxed slices to boxed arrays.
use Rattle.std.specs.Prelude.{◌≡◌, ℕ, ◌<◌, List, length}
use Rattle.aa_boxed.specs.Boxed.{Boxed}
use Rattle.aa_boxed.specs.Slice.{Slice}

module _ {T A : Type 0} where
  -- the box `b` holds the `n` elements of the boxed slice `s` as an array, over a clone of its
  -- allocator
  pub record Unboxes (clones : A → A → Type 0) (n : ℕ) (s : Slice T A)
      (b : Boxed (List T) A) : Type 0 where
    pub long : length s.items ≡ n
    pub value : b.value ≡ s.items
    pub alloc : clones s.alloc b.alloc

  -- the boxed slice `s` was returned as `back`, unchanged: its length is not `n`, or an allocation
  -- or a clone failed. With `sure`, no clone can, and the allocation was one of `n` elements of
  -- `size` bytes
  pub record ReturnsBoxed (sure : Type 0) (n size : ℕ) (s back : Slice T A) : Type 0 where
    pub same : back ≡ s
    pub cause : length s.items ≡ n → sure → (0 < n) × (0 < size)
