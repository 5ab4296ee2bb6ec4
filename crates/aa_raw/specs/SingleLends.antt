-- The final value of a `RawBox`, after a `&mut` into it has ended.
use Rattle.std.specs.Prelude.{Some}
use Rattle.std.specs.Borrow.{Fml, RattleType, MutBor, Lends}
use Rattle.std.specs.declared.alloc.Allocator.{Ghosts}
use Rattle.aa_raw.specs.Single.{Single, with_place}
use Rattle.aa_raw.specs.contracts.raw_box.RawBox.{the_row}

-- the place of the raw box `s` holds the last value written through `r`
abbrev pub lends_single : (R A : RattleType) → Ghosts A.Denot → MutBor (Single R.Denot A.Denot)
    → MutBor R.Denot → Fml
lends_single R A g s r = Lends (the_row R A g) R s r (λ w. with_place s.now (Some w))
