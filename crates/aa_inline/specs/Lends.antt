-- The small vector `s` after a `&mut` to one of its items, or to all of them, has ended.
use Rattle.std.specs.Prelude.{ℕ, List, length, if◌then◌else◌, Option, slice_set}
use Rattle.std.specs.Borrow.{Fml, RattleType, MutBor, Lends, LendsIf, follows, Array}
use Rattle.std.specs.List.{refill}
use Rattle.std.specs.Slice.Iter.{iter_mut_name}
use Rattle.std.specs.declared.alloc.Allocator.{Ghosts}
use Rattle.std.specs.declared.slice.IterMut.{IterMut}
use Rattle.aa_inline.specs.Inlined.{Inlined, with_items}
use Rattle.aa_inline.specs.contracts.inline.InlineVec.{the_row}

-- the items of `s` after a mutable slice of all of them ended as `ws`: these, which are as many
abbrev pub written : {T A : Type 0} → Inlined T A → List T → List T
written s ws = if s.spilled then refill (length s.items) s.items ws else ws

module _ (T A N : RattleType) (g : Ghosts A.Denot) (s : MutBor (Inlined T.Denot A.Denot)) where
  -- `s` ends with the last value that was written through `r` at the index `i`
  abbrev pub lends_item : ℕ → MutBor T.Denot → Fml
  lends_item i r =
      Lends (the_row T A N g) T s r (λ w. with_items s.now (slice_set s.now.items i w))

  -- the same if there is a reference `r`; else `s` ends unchanged
  abbrev pub lends_if_there : ℕ → Option (MutBor T.Denot) → Fml
  lends_if_there i r =
      LendsIf (the_row T A N g) T s r (λ w. with_items s.now (slice_set s.now.items i w)) s.now

  -- `s` ends with the last values that were written through `r`
  abbrev pub lends_items : MutBor (List T.Denot) → Fml
  lends_items r = Lends (the_row T A N g) (Array T 0) s r
      (λ ws. with_items s.now (written s.now ws))

  -- `s` ends with the last values that were written through the references of the iterator `i`
  abbrev pub lends_all : IterMut T.Denot → Fml
  lends_all i =
      follows (the_row T A N g) (Array T 0) s.ghost_name (iter_mut_name i)
      (λ ws. with_items s.now (written s.now ws))
