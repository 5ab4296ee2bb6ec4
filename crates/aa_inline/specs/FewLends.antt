-- A `Few` after a `&mut` to one of its items, or to all of them, has ended.
use Rattle.std.specs.Prelude.{ℕ, List, slice_set}
use Rattle.std.specs.Borrow.{Fml, RattleType, MutBor, Lends, Array}
use Rattle.aa_inline.specs.contracts.few.Few.{the_row}

module _ (T N : RattleType) (f : MutBor (List T.Denot)) where
  -- `f` ends with the last value that was written through `r` at the index `i`
  abbrev pub lends_one : ℕ → MutBor T.Denot → Fml
  lends_one i r = Lends (the_row T N) T f r (slice_set f.now i)

  -- `f` ends with the last values that were written through `r`
  abbrev pub lends_all : MutBor (List T.Denot) → Fml
  lends_all r = Lends (the_row T N) (Array T 0) f r (λ ws. ws)
