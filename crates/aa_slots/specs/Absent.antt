-- Slots of a map that have no value.
use Rattle.std.specs.Prelude.{◌≡◌, ℕ, ◌<◌, ◌≤◌, List, Option, None, length}
use Rattle.aa_slots.specs.Slotted.{slot_at}

module _ {T : Type 0} where
  -- the slots from index `from` on and before `end` have no value
  abbrev pub AreAbsent : List (Option (ℕ × T)) → (from end : ℕ) → Type 0
  AreAbsent ss from end = (i : ℕ) → from ≤ i → i < end → slot_at ss i ≡ None

  -- all values of the slots `ss` are in those from index `from` on and before `end`
  abbrev pub IsAllWithin : List (Option (ℕ × T)) → (from end : ℕ) → Type 0
  IsAllWithin ss from end = AreAbsent ss 0 from × AreAbsent ss end (length ss)
