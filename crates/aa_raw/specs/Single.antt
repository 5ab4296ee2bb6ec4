-- The model of a `RawBox`, as contracts see it.
use Rattle.std.specs.Prelude.{ℕ, Option, slice_set}
use Rattle.aa_raw.specs.Block.{Block, fresh, with_places}
use Rattle.aa_raw.specs.Places.{empty_places}
use Rattle.aa_raw.specs.declared.raw_vec.Growth.TheVariants.{Doubling}

-- one place, which is empty or filled, beside the allocator of its memory
pub record Single (X A : Type 0) : Type 0 where
  pub place : Option X
  pub alloc : A

module _ {X A : Type 0} where
  -- the raw box `s` with the place `c`
  abbrev pub with_place : Single X A → Option X → Single X A
  with_place s c = record { place = c; alloc = s.alloc }

  -- the raw box `s` as a block that grows by doubling: its place is the first of a new block for
  -- one element of `size` bytes, of which the others are empty
  abbrev pub as_block : (size : ℕ) → Single X A → Block X A
  as_block size s =
      with_places (fresh size 1 Doubling s.alloc) (slice_set (empty_places size 1) 0 s.place)
