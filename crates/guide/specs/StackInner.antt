-- The fields of a `Stack`: what holds of them, and what contracts see.
use Rattle.allocator_api2.specs.Places.{IsRun, run}
use Rattle.guide.specs.Stack.{Stacked}
use Rattle.guide.specs.declared.stack.Stack.TheInside.{Inside}

module _ {T A : Type 0} where
  -- the model of the stack with the fields `s`: the items at its first places
  abbrev pub view_of : Inside T A → Stacked T
  view_of s = record { items = run s.block.places 0 s.len }

  -- the first `len` places of `s` are filled
  abbrev pub IsFront : Inside T A → Type 0
  IsFront s = IsRun s.block.places 0 s.len
