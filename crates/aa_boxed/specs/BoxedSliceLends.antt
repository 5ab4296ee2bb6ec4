-- The boxed slice after a `&mut` borrow of its items has ended.
use Rattle.std.specs.Prelude.{ℕ, List, length, slice_set}
use Rattle.std.specs.Borrow.{Fml, RattleType, MutBor, Array, Lends, follows}
use Rattle.std.specs.List.{refill}
use Rattle.std.specs.Slice.Iter.{iter_mut_name}
use Rattle.std.specs.declared.alloc.Allocator.{Ghosts}
use Rattle.std.specs.declared.slice.IterMut.{IterMut}
use Rattle.aa_boxed.specs.Slice.{Slice, with_items}
use Rattle.aa_boxed.specs.contracts.boxed.slice.BoxedSlice.{the_row}

module _ (R A : RattleType) (g : Ghosts A.Denot) (s : MutBor (Slice R.Denot A.Denot)) where
  -- the items of `s` are then the last values written through `r`
  abbrev pub lends_items : MutBor (List R.Denot) → Fml
  lends_items r =
      Lends (the_row R A g) (Array R 0) s r
      (λ ws. with_items s.now (refill (length s.now.items) r.now ws))

  -- the item of `s` at the index `i` is then the last value written through `r`
  abbrev pub lends_item : ℕ → MutBor R.Denot → Fml
  lends_item i r = Lends (the_row R A g) R s r (λ w. with_items s.now (slice_set s.now.items i w))

  -- the items of `s` are then the last values written through the references that the iterator `i`
  -- returned
  abbrev pub lends_all : IterMut R.Denot → Fml
  lends_all i =
      follows (the_row R A g) (Array R 0) s.ghost_name (iter_mut_name i)
      (λ ws. with_items s.now (refill (length s.now.items) s.now.items ws))
