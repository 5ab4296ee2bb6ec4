-- The model of the fields of a `Box`.
use Rattle.aa_boxed.specs.Boxed.{Boxed, value_of}
use Rattle.aa_boxed.specs.declared.boxed.Box.TheInside.{Inside}

module _ {T A : Type 0} where
  -- the box with the fields `b`: the value in its place, beside its allocator
  abbrev pub view_of : Inside T A → Boxed T A
  view_of b = record { value = value_of b.block.place b.filled; alloc = b.block.alloc }
