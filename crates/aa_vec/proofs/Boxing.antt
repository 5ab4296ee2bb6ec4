-- A vector without spare capacity.
use Rattle.aa_vec.proofs.Common.{Block, IsRun, arith, le-mul_of_pos_right, length, length-run, nat_tests, same_or_not, usize_max, vector_in, ℕ, ◌*◌, ◌<◌, ◌^◌, ◌≡◌, ◌≤◌}
use Rattle.aa_boxed.specs.Room.{IsExactFor}
use Rattle.aa_boxed.specs.Slice.{Slice, slice_of}
use Rattle.aa_vec.specs.Boxes.{IsUnboxed}

module _ {T A : Type 0} (size : ℕ) where
  -- the block of a boxed slice as that of a vector
  pub IsUnboxed-block : (b : Block T A) (n : ℕ) (s : Slice T A) → IsRun b.places 0 n
      → IsExactFor n b.places → slice_of b n ≡ s
      → (length b.places * size < 2 ^ 63) → (size ≡ 0 → usize_max ≤ length b.places)
      → length b.places ≤ usize_max → IsUnboxed size s (vector_in b n)
  IsUnboxed-block b n s filled room same small many few =
      grind (arith, nat_tests, length-run, same_or_not, le-mul_of_pos_right)

-- a block that a vector takes over
pub ruleset unboxed = (IsUnboxed-block)
