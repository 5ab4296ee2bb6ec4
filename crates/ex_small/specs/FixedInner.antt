-- The fields of a `Fixed`: what holds of them, and what contracts see.
use Rattle.std.specs.Prelude.{length}
use Rattle.allocator_api2.specs.Places.{IsRun, run}
use Rattle.ex_small.specs.Held.{Held}
use Rattle.ex_small.specs.declared.fixed.Fixed.TheInside.{Inside}

module _ {T A : Type 0} where
  -- the model of the vector with the fields `v`
  abbrev pub view_of : Inside T A → Held T
  view_of v = record { items = run v.block.places 0 v.len; capacity = length v.block.places }

  -- the first `len` places of `v` hold values
  abbrev pub IsFront : Inside T A → Type 0
  IsFront v = IsRun v.block.places 0 v.len
