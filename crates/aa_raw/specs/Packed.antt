-- A capacity and a growth policy in one word of a block.
use Rattle.std.specs.Prelude.{◌≡◌, ℕ, ◌-◌, ◌/◌, ◌%◌, ◌^◌, ◌<◌, ◌==◌, ◌⊎◌, if◌then◌else◌}
use Rattle.aa_raw.specs.Growth.{usize_max}
use Rattle.aa_raw.specs.declared.raw_vec.Growth.{Growth}
use Rattle.aa_raw.specs.declared.raw_vec.Growth.TheVariants.{Doubling, Sparing, InPlace}

-- the greatest number that a word has for a capacity. It means `usize::MAX`, the capacity of
-- zero-sized elements
abbrev pub max_packed : ℕ
max_packed = 2 ^ 62 - 1

-- the capacity in the word `w`
abbrev pub capacity_in : (w : ℕ) → ℕ
capacity_in w = if w / 4 == max_packed then usize_max else w / 4

-- the growth policy in the word `w`
abbrev pub growth_in : (w : ℕ) → Growth
growth_in w = if w % 4 == 0 then Doubling else (if w % 4 == 1 then Sparing else InPlace)

-- the capacity `c` fits in a word
abbrev pub CanPack : (c : ℕ) → Type 0
CanPack c = (c < max_packed) ⊎ (c ≡ usize_max)
