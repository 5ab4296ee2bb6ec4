-- The model of a `Box`.
use Rattle.std.specs.Prelude.{◌≡◌, true, Option, Some, None, is_some}
use Rattle.std.proofs.Common.{sym, true≢false}

-- a value beside the allocator of its memory
pub record Boxed (T A : Type 0) : Type 0 where
  pub value : T
  pub alloc : A

module _ {T A : Type 0} where
  -- the box `b` with the value `x`
  abbrev pub with_value : Boxed T A → T → Boxed T A
  with_value b x = record { value = x; alloc = b.alloc }

-- the value of the option `o`, which is some
abbrev pub value_of : {T : Type 0} (o : Option T) → is_some o ≡ true → T
value_of (Some x) h = x
value_of None h = absurd (true≢false (sym h))
