-- The invariant of the fields of a `Vec`, and its view.
use Rattle.std.specs.Prelude.{◌+◌, ◌≤◌}
use Rattle.aa_raw.specs.Places.{IsRun}
use Rattle.aa_vec.specs.Tail.{count_from}
use Rattle.aa_vec.specs.Vector.{Vector, vector_in}
use Rattle.aa_vec.specs.declared.vec.Vec.TheInside.{Inside}

module _ {T A : Type 0} where
  -- the view of the fields `v`: the items are in the first places
  abbrev pub view_of : Inside T A → Vector T A
  view_of v = vector_in v.block v.len

  -- the first places are filled, as many as the length of `v`
  abbrev pub IsFront : Inside T A → Type 0
  IsFront v = IsRun v.block.places 0 v.len

  -- and the places after them hold no more values than `v` has set apart and not settled
  pub record IsWhole (v : Inside T A) : Type 0 where
    pub filled : IsFront v
    pub few : count_from v.block.places v.len + v.settled.count ≤ v.apart.count
