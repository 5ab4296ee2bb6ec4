-- Spare capacity of a block. The definitions are about numbers, so that a block, a vector and any
-- other collection share them.
use Rattle.std.specs.Prelude.{◌≡◌, ℕ, ◌-◌, ◌^◌, ◌<◌, ◌==◌, if◌then◌else◌}
use Rattle.aa_raw.specs.Errors.{error_for}
use Rattle.aa_raw.specs.declared.collections.TryReserveError.{TryReserveError}

-- the number of calls of a block that move a run of `n` elements: 0 if there are none, and else 1
abbrev pub run_count : (n : ℕ) → ℕ
run_count n = if n == 0 then 0 else 1

-- the number of elements written when `n` elements move over `gap` places: none if there is no gap
abbrev pub moved_over : (gap n : ℕ) → ℕ
moved_over gap n = if gap == 0 then 0 else n

-- `k` more than `n` elements of `size` bytes did not fit in `capacity` places, and a growth to
-- `requested` places failed with `error`
pub record LacksRoom (size capacity n k requested : ℕ) (error : TryReserveError) : Type 0 where
  pub full : capacity - n < k
  pub exact : error ≡ error_for size requested

-- shrinking a block of `capacity` places, for elements of `size` bytes, to `n` places needs a new
-- block: zero-sized ones have none, and `usize::MAX` places
abbrev pub NeedsNewBlock : (size capacity n : ℕ) → Type 0
NeedsNewBlock size capacity n = (0 < n) × (n < capacity) × (capacity < 2 ^ 64 - 1) × (0 < size)
