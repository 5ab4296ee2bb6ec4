-- Why a table has no capacity for more entries.
use Rattle.std.specs.Prelude.{◌≡◌, ℕ, ◌+◌, ◌-◌, ◌^◌, ◌<◌, ◌≤◌}
use Rattle.allocator_api2.specs.Errors.{IsErrorFor}
use Rattle.allocator_api2.specs.declared.collections.TryReserveError.{TryReserveError}
use Rattle.allocator_api2.specs.declared.collections.TryReserveErrorKind.TheVariants.{CapacityOverflow}

-- `k` more than `n` entries did not fit in a table of this `capacity`, and a growth to `requested`
-- failed with `error`, in the block of the entries or in that of their hashes
pub record LacksRoom (capacity n k requested : ℕ) (error : TryReserveError) : Type 0 where
  pub full : capacity - n < k
  pub number : IsErrorFor error requested
  pub overflow : 2 ^ 64 ≤ n + k → error.kind ≡ CapacityOverflow
