-- An iterator over the block of a boxed slice.
use Rattle.aa_boxed.proofs.Common.{Block, IsExactFor, IsRun, Slice, arith, le-mul_of_pos_right, length, length-run, nat_tests, new_capacity, run, same_or_not, slice_of, usize_max, ℕ, ◌*◌, ◌<◌, ◌^◌, ◌≡◌, ◌≤◌}
use Rattle.aa_raw.specs.IntoIter.{Remaining, remaining_in}

module _ {T A : Type 0} (size n : ℕ) (b : Block T A) (s : Slice T A) (i : Remaining T A) where
  pub remaining-exact : IsRun b.places 0 n → IsExactFor n b.places → slice_of b n ≡ s
      → i ≡ remaining_in b (run b.places 0 n)
      → length b.places * size < 2 ^ 63 → (size ≡ 0 → usize_max ≤ length b.places)
      → length b.places ≤ usize_max
      → i.capacity ≡ new_capacity size (length s.items)
  remaining-exact filled exact same made many zst few =
      grind (arith, nat_tests, length-run, same_or_not, le-mul_of_pos_right)
