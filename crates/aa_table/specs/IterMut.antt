-- An iterator that lends the values of a table, as contracts see it.
use Rattle.std.specs.Prelude.{◌≡◌, List, map, length}
use base.Fml.{GName}
use Rattle.aa_table.specs.IterMutLends.{with_values_of}

-- the entries that remain, and the name of the borrow of the table
pub record Lent (K V : Type 0) : Type 0 where
  pub entries : List (K × V)
  pub borrow : GName

module _ {K V : Type 0} where
  -- the values that remain
  abbrev pub values : Lent K V → List V
  values it = map (λ e. e.1) it.entries

  -- whatever values are written to the entries `es`, their keys and their number do not change
  abbrev pub KeepsKeys : List (K × V) → Type 0
  KeepsKeys es = ((fs : List (K × V)) → map (λ e. e.0) (with_values_of es fs) ≡ map (λ e. e.0) es)
      × ((fs : List (K × V)) → length (with_values_of es fs) ≡ length es)
