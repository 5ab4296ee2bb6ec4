-- The final state of an arena of leaves after a mutable borrow of an item has ended.
use Rattle.std.specs.Prelude.{ℕ, slice_set}
use Rattle.std.specs.Borrow.{Fml, RattleType, MutBor, Lends}
use Rattle.std.specs.declared.alloc.Allocator.{Ghosts}
use Rattle.aa_ordered.specs.Leaves.{LeavesView, list_at, with_list}
use Rattle.aa_ordered.specs.contracts.leaves.Leaves.{the_row}

-- the final state of the arena `a`: the item at index `at` of the list at index `i` is the last one
-- written through `r`
abbrev pub lends_item : (T A : RattleType) (g : Ghosts A.Denot) → MutBor (LeavesView T.Denot)
    → (i at : ℕ) → MutBor T.Denot → Fml
lends_item T A g a i at r =
    Lends (the_row T A g) T a r (λ x. with_list a.now i (slice_set (list_at a.now i) at x))
