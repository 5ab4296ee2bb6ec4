-- How repeating the elements of a slice in a vector fails.
use Rattle.std.specs.Prelude.{◌≡◌, ℕ, ◌<◌}
use Rattle.aa_raw.specs.declared.collections.TryReserveError.{TryReserveError}
use Rattle.aa_raw.specs.Growth.{usize_max}
use Rattle.aa_raw.specs.Errors.{error_for}

-- creating a vector of `count` elements of `size` bytes failed with `error`: `count` is not zero,
-- and the elements are not zero-sized or there are more than `usize::MAX`
pub record CopiesFail (size count : ℕ) (error : TryReserveError) : Type 0 where
  pub some : 0 < count
  pub zst : size ≡ 0 → usize_max < count
  pub exact : error ≡ error_for size count
