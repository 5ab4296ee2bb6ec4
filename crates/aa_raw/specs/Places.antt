-- The contents of the places of a block.
use Rattle.std.specs.Prelude.{◌≡◌, ℕ, ◌+◌, ◌*◌, ◌^◌, ◌<◌, ◌≤◌, true, get_or, List, ◌++◌, length, take, drop, replicate, filter_map, Option, None, is_none, is_some, if◌then◌else◌, ◌==◌}
use Rattle.std.specs.List.{list_all}
use Rattle.aa_raw.specs.Growth.{usize_max}
use denote.RattleType.{RattleType}
use Rattle.std.specs.Mem.{type_size}

-- a block of elements of the type `R` can have `c` places: they take at most `isize::MAX` bytes,
-- and there are at least `usize::MAX` if the elements are zero-sized
abbrev pub IsCapacity : RattleType → ℕ → Type 0
IsCapacity R c = (c * type_size R < 2 ^ 63) × (type_size R ≡ 0 → usize_max ≤ c)

module _ {X : Type 0} where
  -- `usize::MAX` empty places. They remain folded: so long a list must not be written out
  unfoldable pub zst_places : List (Option X)
  zst_places = replicate usize_max None

  -- the empty places of a new block for `n` elements of `size` bytes
  abbrev pub empty_places : (size n : ℕ) → List (Option X)
  empty_places size n = if size == 0 then zst_places else replicate n None

  -- the place of `cs` at the index `i` holds a value
  abbrev pub IsFilled : List (Option X) → ℕ → Type 0
  IsFilled cs i = is_some (get_or cs i None) ≡ true

  -- the `n` places of `cs` from the index `from` on hold values
  abbrev pub IsRun : List (Option X) → ℕ → ℕ → Type 0
  IsRun cs from n = (from + n ≤ length cs) × (list_all is_some (take n (drop from cs)) ≡ true)

  -- no place of `cs` holds a value
  abbrev pub AreEmpty : List (Option X) → Type 0
  AreEmpty cs = list_all is_none cs ≡ true

  -- the values in the places `cs`
  abbrev pub somes : List (Option X) → List X
  somes cs = filter_map (λ c. c) cs

  -- the values in the `n` places of `cs` from the index `from` on
  unfoldable pub run : List (Option X) → ℕ → ℕ → List X
  run cs from n = somes (take n (drop from cs))

  -- `cs` with `others` in place of the `n` places from the index `from` on
  unfoldable pub with_run : List (Option X) → ℕ → ℕ → List (Option X) → List (Option X)
  with_run cs from n others = take from cs ++ (others ++ drop (from + n) cs)

  -- `cs` after the `n` values from the index `from` on are moved to the index `to`
  unfoldable pub moved : List (Option X) → ℕ → ℕ → ℕ → List (Option X)
  moved cs from to n = with_run (with_run cs from n (replicate n None)) to n (take n (drop from cs))
