-- The capacity of a block, and the capacity that a growth requests.
use Rattle.std.specs.Prelude.{ℕ, ◌+◌, ◌-◌, ◌*◌, ◌/◌, ◌^◌, max, ◌==◌, nat_lt, if◌then◌else◌}
use Rattle.aa_raw.specs.declared.raw_vec.Growth.{Growth}
use Rattle.aa_raw.specs.declared.raw_vec.Growth.TheVariants.{Doubling, Sparing, InPlace}

-- `usize::MAX`
abbrev pub usize_max : ℕ
usize_max = 2 ^ 64 - 1

-- the capacity of a new block for `n` elements of `size` bytes: `usize::MAX` if they are zero-sized
abbrev pub new_capacity : (size n : ℕ) → ℕ
new_capacity size n = if size == 0 then 2 ^ 64 - 1 else n

-- the minimum capacity that an amortized growth requests, for elements of `size` bytes
abbrev pub min_capacity : (size : ℕ) → ℕ
min_capacity size = if size == 1 then 8 else (if nat_lt 1024 size then 1 else 4)

-- the capacity that an amortized growth from `c` to at least `required` requests: twice `c`, or
-- half of `c` more if the growth is sparing, and never less than `least`
abbrev pub amortized : Growth → (c required least : ℕ) → ℕ
amortized Doubling c required least = max (max (2 * c) required) least
amortized Sparing c required least = max (max (c + (c + 1) / 2) required) least
amortized InPlace c required least = max (max (2 * c) required) least
