-- A cursor over the values of a slot map, as contracts see it.
use base.Fml.{GName}
use Rattle.std.specs.Prelude.{◌+◌, List, [], ◌∷◌}
use Rattle.aa_slots.specs.declared.cursor.CursorMut.{CursorMut}
use Rattle.aa_slots.specs.declared.key.KeyData.{KeyData}
use Rattle.aa_slots.specs.Slotted.{Slotted, pairs_before, pairs_from, with_value}

module _ {T : Type 0} where
  -- the key of the first of the pairs `es`, of which there is one
  abbrev pub first_key : List (KeyData × T) → KeyData
  first_key [] = record { index = 0; serial = 0 }
  first_key (e ∷ es) = e.0

module _ {T A K : Type 0} where
  -- the map that the cursor `c` borrows
  abbrev pub cursor_map : CursorMut T A K → Slotted T
  cursor_map c = c.map.now

  -- the ghost name of that borrow
  abbrev pub cursor_lender : CursorMut T A K → GName
  cursor_lender c = c.map.ghost_name

  -- the keys and values before the cursor `c`
  abbrev pub before : CursorMut T A K → List (KeyData × T)
  before c = pairs_before c.map.now.slots c.at

  -- the keys and values after the cursor `c`
  abbrev pub remaining : CursorMut T A K → List (KeyData × T)
  remaining c = pairs_from c.map.now.slots c.at

  -- the cursor `c` after it passed a value, in place of which `w` was written
  abbrev pub passed : CursorMut T A K → T → CursorMut T A K
  passed c w =
      let k = first_key (remaining c) in
      record { map = record c.map { now = with_value c.map.now k w }; at = k.index + 1 }
