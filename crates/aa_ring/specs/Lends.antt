-- The ring `r` after a `&mut` to one of its items, or to all of them, has ended.
use Rattle.std.specs.Prelude.{ℕ, List, length, Option, slice_set}
use Rattle.std.specs.Borrow.{Fml, RattleType, MutBor, Array, Lends, LendsIf, follows}
use Rattle.std.specs.List.{refill}
use Rattle.std.specs.Slice.Iter.{iter_mut_name}
use Rattle.std.specs.declared.alloc.Allocator.{Ghosts}
use Rattle.std.specs.declared.slice.IterMut.{IterMut}
use Rattle.aa_ring.specs.Ringed.{Ringed, with_items, contiguous}
use Rattle.aa_ring.specs.contracts.ring.Ring.{the_row}

module _ (R A : RattleType) (g : Ghosts A.Denot) (r : MutBor (Ringed R.Denot A.Denot))
    (index : ℕ) where
  -- `r` ends with the last value that was written through `x` at `index`
  abbrev pub lends_item : MutBor R.Denot → Fml
  lends_item x = Lends (the_row R A g) R r x (λ w. with_items r.now (slice_set r.now.items index w))

  -- the same if there is a reference `x`; else `r` ends unchanged
  abbrev pub lends_if_there : Option (MutBor R.Denot) → Fml
  lends_if_there x =
      LendsIf (the_row R A g) R r x (λ w. with_items r.now (slice_set r.now.items index w)) r.now

module _ (R A : RattleType) (g : Ghosts A.Denot) (r : MutBor (Ringed R.Denot A.Denot)) where
  -- `r` ends in one slice, with the last values that were written through `x`
  abbrev pub lends_items : MutBor (List R.Denot) → Fml
  lends_items x =
      Lends (the_row R A g) (Array R 0) r x
      (λ ws. contiguous r.now (refill (length r.now.items) x.now ws))

  -- `r` ends in one slice, with the last values that were written through the references that the
  -- iterator `i` returned
  abbrev pub lends_all : IterMut R.Denot → Fml
  lends_all i =
      follows (the_row R A g) (Array R 0) r.ghost_name (iter_mut_name i)
      (λ ws. contiguous r.now (refill (length r.now.items) r.now.items ws))
