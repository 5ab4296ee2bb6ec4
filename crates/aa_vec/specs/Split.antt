-- A vector that is split in two.
use Rattle.std.specs.Prelude.{◌≡◌, ℕ, ◌-◌, ◌<◌, [], take, drop}
use Rattle.aa_vec.specs.Copies.{IsMade}
use Rattle.aa_vec.specs.Vector.{Vector, len, Becomes, run_count}

module _ {T A : Type 0} where
  -- `head` has the first `at` elements of `old` in its block, and `tail` the others in a new block
  -- with capacity for exactly these. If `at` is 0, `tail` is `old` with its block, and `head` is
  -- new, with the same capacity
  pub record Splits (size : ℕ) (old : Vector T A) (at : ℕ) (head tail : Vector T A) : Type 0 where
    pub head_kept : 0 < at → Becomes old (take at old.items) 0 0 head
    pub tail_made : 0 < at →
        IsMade size (len old - at) old.growth (drop at old.items) (run_count (len old - at)) tail
    pub tail_all : at ≡ 0 → tail ≡ old
    pub head_made : at ≡ 0 → IsMade size old.capacity old.growth [] 0 head
