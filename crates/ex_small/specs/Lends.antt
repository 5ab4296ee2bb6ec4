-- An arena after a `&mut` to one of its values has ended.
use Rattle.std.specs.Prelude.{ℕ, slice_set}
use Rattle.std.specs.Borrow.{Fml, RattleType, MutBor, Lends}
use Rattle.std.specs.declared.alloc.Allocator.{Ghosts}
use Rattle.ex_small.specs.Held.{Held, with_items}
use Rattle.ex_small.specs.contracts.arena.Arena.{the_row}

-- `a` ends with the last value that was written through `r` at the handle `id`
abbrev pub lends_value : (R A : RattleType) (g : Ghosts A.Denot) → MutBor (Held R.Denot) → ℕ
    → MutBor R.Denot → Fml
lends_value R A g a id r = Lends (the_row R A g) R a r
    (λ w. with_items a.now (slice_set a.now.items id w))
