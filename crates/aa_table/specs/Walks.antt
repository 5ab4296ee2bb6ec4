-- Walks over the taken slots of a table.
use Rattle.std.specs.Prelude.{◌≡◌, ℕ, ◌+◌, ◌*◌, ◌/◌, ◌≤◌, ◌==◌, ◌&&◌, nat_le, Bool, not, List, length, map}
use Rattle.std.specs.List.{range_with_len}
use Rattle.aa_table.specs.Slots.{tag_at}
use Rattle.aa_table.specs.declared.walk.Walk.{Walk}
use lib.Lanes.{mask_l}

-- the tags `ts` are those of whole groups of slots, or of none
abbrev pub AreGroups : List ℕ → Type 0
AreGroups ts = length ts ≡ 16 * (length ts / 16)

-- a slot from `from` on is taken
abbrev pub HasTaken : List ℕ → (from : ℕ) → Type 0
HasTaken ts from = ((s : ℕ) → from ≤ s → tag_at ts s ≡ 0) → ⊥

-- slot `s` is taken, and not before `from`
abbrev pub is_left : List ℕ → (from s : ℕ) → Bool
is_left ts from s = nat_le from s && not (tag_at ts s == 0)

-- the mask of the group of slots from `base` on: a bit for each, the lowest first, which is 1 if the
-- slot is taken and not before `from`
unfoldable pub mask_of : List ℕ → (base from : ℕ) → ℕ
mask_of ts base from = mask_l (map (λ i. is_left ts from (base + i)) (range_with_len 0 16))

-- the walk `w` over the tags `ts` continues at slot `w.from`, which is in the group from `w.base` on
-- or directly after it, and its mask is that of this group
pub record IsWalk (ts : List ℕ) (w : Walk) : Type 0 where
  pub groups : AreGroups ts
  pub aligned : w.base ≡ 16 * (w.base / 16)
  pub within : w.base ≤ length ts
  pub after : w.base ≤ w.from
  pub before : w.from ≤ w.base + 16
  pub mask : w.mask ≡ mask_of ts w.base w.from
