-- Borrowed entries, as contracts see them.
use Rattle.std.specs.Prelude.{List, Option}
use base.Fml.{GName}
use Rattle.aa_raw.specs.declared.row.entries_mut.EntriesMut.{EntriesMut}

module _ {K V : Type 0} where
  -- the places of the borrowed entries `e`, of which those taken are empty
  abbrev pub places_left : EntriesMut K V → List (Option (K × V))
  places_left e = e.places

  -- the name of the borrow of the block that has the entries `e`
  abbrev pub borrow_name : EntriesMut K V → GName
  borrow_name e = e.tie
