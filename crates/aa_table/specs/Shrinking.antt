-- How often a table moves to new blocks as it shrinks.
use Rattle.std.specs.Prelude.{◌≡◌, ℕ, ◌+◌, ◌<◌}
use Rattle.aa_table.specs.Slots.{IsSlotCount}

-- a table with the capacity `c` has as many slots as one with the capacity `d`
abbrev pub SameSlots : (c d : ℕ) → Type 0
SameSlots c d = (slots : ℕ) × IsSlotCount c slots × IsSlotCount d slots

-- a table that had `old` resizes has `new` once it shrank to this capacity: one more, unless the
-- capacity is 0 and all blocks were freed, or there are as many slots as before, as `Same` says
pub record CountsShrink (Same : Type 0) (capacity old new : ℕ) : Type 0 where
  pub freed : capacity ≡ 0 → new ≡ old
  pub same : Same → new ≡ old
  pub moved : 0 < capacity → (Same → ⊥) → new ≡ old + 1
