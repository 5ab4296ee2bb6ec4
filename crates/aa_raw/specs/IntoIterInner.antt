-- The view of the fields of an `IntoIter`, and their invariant.
use Rattle.std.specs.Prelude.{◌-◌, ◌≤◌, take, drop}
use Rattle.aa_raw.specs.Places.{AreEmpty, IsRun, run}
use Rattle.aa_raw.specs.IntoIter.{Remaining, remaining_in}
use Rattle.aa_raw.specs.declared.vec.into_iter.IntoIter.TheInside.{Inside}

module _ {X A : Type 0} where
  -- the iterator with the fields `v`, as contracts see it
  abbrev pub view_of : Inside X A → Remaining X A
  view_of v = remaining_in v.block (run v.block.places v.front (v.back - v.front))

  -- the places from `front` up to `back` hold values, and no others do
  pub record IsBetween (v : Inside X A) : Type 0 where
    pub between : v.front ≤ v.back
    pub filled : IsRun v.block.places v.front (v.back - v.front)
    pub before : AreEmpty (take v.front v.block.places)
    pub after : AreEmpty (drop v.back v.block.places)
