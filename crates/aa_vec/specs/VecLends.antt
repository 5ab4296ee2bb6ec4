-- What a vector becomes once a `&mut` into it has ended.
use Rattle.std.specs.Prelude.{ℕ, List, length, slice_set}
use Rattle.std.specs.Borrow.{Fml, RattleType, MutBor, Array, Lends, follows}
use Rattle.std.specs.declared.slice.IterMut.{IterMut}
use Rattle.std.specs.Slice.Iter.{iter_mut_name}
use Rattle.std.specs.List.{refill}
use Rattle.std.specs.declared.alloc.Allocator.{Ghosts}
use Rattle.aa_vec.specs.Vector.{Vector, with_items}
use Rattle.aa_vec.specs.contracts.vec.Vec.{the_row}

module _ (R A : RattleType) (g : Ghosts A.Denot) (v : MutBor (Vector R.Denot A.Denot)) where
  -- the items of `v` are the last values written through `r`
  abbrev pub lends_items : MutBor (List R.Denot) → Fml
  lends_items r =
      Lends (the_row R A g) (Array R 0) v r
      (λ ws. with_items v.now (refill (length v.now.items) r.now ws))

  -- the item of `v` at the index `i` is the last value written through `r`
  abbrev pub lends_item : ℕ → MutBor R.Denot → Fml
  lends_item i r = Lends (the_row R A g) R v r (λ w. with_items v.now (slice_set v.now.items i w))

  -- the items of `v` are the last values written through the references that the iterator `i`
  -- returned
  abbrev pub lends_all : IterMut R.Denot → Fml
  lends_all i =
      follows (the_row R A g) (Array R 0) v.ghost_name (iter_mut_name i)
      (λ ws. with_items v.now (refill (length v.now.items) v.now.items ws))
