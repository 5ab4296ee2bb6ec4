-- The invariants of `BoxedSlice` and `Builder`, and the models of their fields.
use Rattle.std.specs.Prelude.{length, drop}
use Rattle.aa_raw.specs.Places.{AreEmpty, IsRun, run}
use Rattle.aa_boxed.specs.Room.{IsExactFor}
use Rattle.aa_boxed.specs.Slice.{Slice, Building, slice_of}
use Rattle.aa_boxed.specs.declared.boxed.slice.BoxedSlice.TheInside.{Inside as InsideSlice}
use Rattle.aa_boxed.specs.declared.boxed.builder.Builder.TheInside.{Inside as InsideBuilder}

module _ {T A : Type 0} where
  -- the boxed slice with the fields `v`: the first `v.len` values of its block
  abbrev pub view_of : InsideSlice T A → Slice T A
  view_of v = slice_of v.block v.len

  -- the first `v.len` places are filled and no others are, and there are `v.len` places or
  -- `usize::MAX`
  pub record IsWhole (v : InsideSlice T A) : Type 0 where
    pub filled : IsRun v.block.places 0 v.len
    pub exact : IsExactFor v.len v.block.places
    pub others : AreEmpty (drop v.len v.block.places)

  -- the builder with the fields `v`: the first `v.len` values of its block, and as much capacity as
  -- there are places
  abbrev pub building_of : InsideBuilder T A → Building T A
  building_of v =
      record {
        items = run v.block.places 0 v.len;
        capacity = length v.block.places;
        growth = v.block.growth;
        grown = v.block.grown;
        alloc = v.block.alloc;
      }

  -- the first `v.len` places are filled and no others are
  pub record IsFront (v : InsideBuilder T A) : Type 0 where
    pub filled : IsRun v.block.places 0 v.len
    pub others : AreEmpty (drop v.len v.block.places)
