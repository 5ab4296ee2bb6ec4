-- What a gap buffer becomes once a `&mut` to its elements has ended.
use Rattle.std.specs.Prelude.{List}
use Rattle.std.specs.Borrow.{Fml, RattleType, MutBor, Array, Lends, follows}
use Rattle.std.specs.List.{refill}
use Rattle.std.specs.Slice.Iter.{iter_mut_name}
use Rattle.std.specs.declared.alloc.Allocator.{Ghosts}
use Rattle.std.specs.declared.slice.IterMut.{IterMut}
use Rattle.aa_gap.specs.Buffer.{Buffer, text, cursor, len, with_parts, contiguous}
use Rattle.aa_gap.specs.contracts.gap_buffer.GapBuffer.{the_row}

module _ (R A : RattleType) (g : Ghosts A.Denot) (b : MutBor (Buffer R.Denot A.Denot)) where
  -- the elements before the cursor of `b` are the last values written through `r`
  abbrev pub lends_before : MutBor (List R.Denot) → Fml
  lends_before r =
      Lends (the_row R A g) (Array R 0) b r
      (λ ws. with_parts b.now (refill (cursor b.now) r.now ws) b.now.after)

  -- the cursor of `b` is at the end, and its elements are the last values written through `r`
  abbrev pub lends_text : MutBor (List R.Denot) → Fml
  lends_text r =
      Lends (the_row R A g) (Array R 0) b r
      (λ ws. contiguous b.now (refill (len b.now) r.now ws))

  -- the cursor of `b` is at the end, and its elements are the last values written through the
  -- references that the iterator `i` returned
  abbrev pub lends_all : IterMut R.Denot → Fml
  lends_all i =
      follows (the_row R A g) (Array R 0) b.ghost_name (iter_mut_name i)
      (λ ws. contiguous b.now (refill (len b.now) (text b.now) ws))
