-- The model of a stack: what contracts see.
use Rattle.std.specs.Prelude.{List}

-- the items, the last one at the top
pub record Stacked (T : Type 0) : Type 0 where
  pub items : List T
