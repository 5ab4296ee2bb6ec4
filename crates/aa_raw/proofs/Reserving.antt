-- What a reserve leaves, and how many places there are after the calls of a block.
use Rattle.aa_raw.proofs.Common.{Block, Reserves, length, length_refill, mul-pos, nat_tests, rules, usize_max, ℕ, ◌+◌, ◌-◌, ◌≤◌}
use Rattle.aa_raw.proofs.Places.{emptied_more, endless-empty, filled_within, lengths, moved_nowhere, moved_one, moved_over, new_capacity-empty, run_filled, still_there, with_none}

module _ {X A : Type 0} (size : ℕ) (old : Block X A) (n k requested : ℕ) where
  -- if they fit, the block is unchanged
  pub Reserves-unchanged : n + k ≤ length old.places → length old.places ≤ usize_max
      → Reserves size old n k requested old
  Reserves-unchanged fits within = search (rules, nat_tests)

-- an empty block, and whether places have memory
pub ruleset made_empty = (endless-empty, new_capacity-empty, lengths, mul-pos)

pub ruleset after_calls = (
  lengths,
  with_none,
  length_refill,
  Reserves-unchanged,
  moved_over,
  nat_tests,
  moved_nowhere,
  moved_one,
  filled_within,
  emptied_more,
  still_there,
  run_filled,
)
