-- Blocks without spare capacity.
use Rattle.std.specs.Prelude.{◌≡◌, ℕ, List, length, Option}
use Rattle.aa_raw.specs.Growth.{usize_max}

module _ {T : Type 0} where
  -- there are `n` places `cs`
  abbrev pub HasPlaces : ℕ → List (Option T) → Type 0
  HasPlaces n cs = length cs ≡ n

  -- there are `usize::MAX` places `cs`, as only zero-sized elements have
  abbrev pub HasZstPlaces : List (Option T) → Type 0
  HasZstPlaces cs = HasPlaces usize_max cs

  -- there are `n` places `cs`, or `usize::MAX`. Said as an implication, since a field of a type may
  -- hold no choice
  abbrev pub IsExactFor : ℕ → List (Option T) → Type 0
  IsExactFor n cs = ¬ HasPlaces n cs → HasZstPlaces cs
