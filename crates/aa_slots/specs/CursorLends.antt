-- The final state of a cursor after a mutable borrow of the value that it passed has ended.
use Rattle.std.specs.Prelude.{[], Option}
use Rattle.std.specs.Borrow.{Fml, RattleType, MutBor, LendsIf}
use Rattle.std.specs.declared.alloc.Allocator.{Ghosts}
use mir.Syntax.{named}
use Rattle.aa_slots.specs.Passing.{passed}
use Rattle.aa_slots.specs.declared.cursor.CursorMut.{CursorMut}
use Rattle.aa_slots.specs.contracts.cursor.CursorMut.{the_row}

-- the cursor `c` has passed the value, which is the last one written through `r`, or is unchanged
-- if `r` is `None`
abbrev pub lends_next : (T A K : RattleType) (g : Ghosts A.Denot)
    → MutBor (CursorMut T.Denot A.Denot K.Denot) → Option (MutBor T.Denot) → Fml
lends_next T A K g c r =
    LendsIf (the_row (record { mir = named 1; lft = [] }) T A K g) T c r (passed c.now) c.now
