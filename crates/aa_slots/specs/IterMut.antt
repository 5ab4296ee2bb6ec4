-- An iterator that lends the values of a slot map, as contracts see it.
use Rattle.std.specs.Prelude.{◌≡◌, ℕ, List, Option, length, map}
use base.Fml.{GName}
use Rattle.aa_slots.specs.IterMutLends.{with_values_of}
use Rattle.aa_slots.specs.Slotted.{entries_from}
use Rattle.aa_slots.specs.declared.key.KeyData.{KeyData}

-- the pairs that remain, and the name of the borrow of the map
pub record Lent (T : Type 0) : Type 0 where
  pub entries : List (KeyData × T)
  pub borrow : GName

module _ {T : Type 0} where
  -- the values that remain
  abbrev pub values : Lent T → List T
  values it = map (λ e. e.1) it.entries

  -- whatever values are written to the slots `ss`, the keys that have one and the number of slots do
  -- not change
  abbrev pub KeepsKeys : List (Option (ℕ × T)) → Type 0
  KeepsKeys ss = ((ts : List (Option (ℕ × T)))
      → map (λ e. e.0) (entries_from 0 (with_values_of ss ts)) ≡ map (λ e. e.0) (entries_from 0 ss))
      × ((ts : List (Option (ℕ × T))) → length (with_values_of ss ts) ≡ length ss)
