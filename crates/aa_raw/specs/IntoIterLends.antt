-- The final value of an `IntoIter`, after a `&mut` to its items has ended.
use Rattle.std.specs.Prelude.{List, length}
use Rattle.std.specs.Borrow.{Fml, RattleType, MutBor, Array, Lends}
use Rattle.std.specs.List.{refill}
use Rattle.std.specs.declared.alloc.Allocator.{Ghosts}
use Rattle.aa_raw.specs.IntoIter.{Remaining, with_items}
use Rattle.aa_raw.specs.contracts.vec.into_iter.IntoIter.{the_row}

module _ (R A : RattleType) (g : Ghosts A.Denot) (s : MutBor (Remaining R.Denot A.Denot)) where
  -- the items are the last values written through `r`
  abbrev pub lends_remaining : MutBor (List R.Denot) → Fml
  lends_remaining r = Lends (the_row R A g) (Array R 0) s r
      (λ ws. with_items s.now (refill (length s.now.items) r.now ws))
