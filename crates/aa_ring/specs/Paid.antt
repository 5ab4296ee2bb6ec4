-- A bound on the items that growth moves.
use Rattle.std.specs.Prelude.{◌≡◌, ℕ, ◌*◌, ◌≤◌, length}
use Rattle.allocator_api2.specs.declared.raw_vec.Growth.TheVariants.{Doubling}
use Rattle.aa_ring.specs.Ringed.{Ringed}

-- at most `n` items were ever put into `r`, and growth has moved at most two for each of them
pub record IsPaid {T A : Type 0} (n : ℕ) (r : Ringed T A) : Type 0 where
  pub doubles : r.growth ≡ Doubling
  pub items : length r.items ≤ n
  pub fits : length r.items ≤ r.capacity
  pub moves : r.grown.moved ≤ 2 * n
  pub within : r.grown.moved ≤ r.capacity
