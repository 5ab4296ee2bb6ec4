-- The parts of a gap buffer: its block, and the numbers of values at both ends.
use Rattle.std.specs.Prelude.{◌≡◌, ℕ, ◌-◌, length}
use Rattle.aa_raw.specs.Block.{Block}
use Rattle.aa_raw.specs.Places.{IsRun, run}
use Rattle.aa_gap.specs.Buffer.{Buffer}

module _ {T A : Type 0} where
  -- `block` is that of the text `b`, with `m` values in its first places and `n` in its last
  pub record HasParts (b : Buffer T A) (block : Block T A) (m n : ℕ) : Type 0 where
    pub before : IsRun block.places 0 m × (run block.places 0 m ≡ b.before)
    pub after : IsRun block.places (length block.places - n) n
        × (run block.places (length block.places - n) n ≡ b.after)
    pub capacity : length block.places ≡ b.capacity
    pub growth : block.growth ≡ b.growth
    pub grown : block.grown ≡ b.grown
    pub written : block.written ≡ b.written
    pub runs : block.runs ≡ b.runs
    pub alloc : block.alloc ≡ b.alloc
