-- The view of a slot map.
use Rattle.std.specs.Prelude.{◌≡◌, ℕ, zero, suc, ◌+◌, ◌-◌, ◌≤◌, ◌&&◌, ◌==◌, Bool, List, [], ◌∷◌, length, count_by, is_some, Option, None, Some, nat_eq, nat_le, if◌then◌else◌, slice_index_or, slice_set, take, drop}
use Rattle.std.specs.Cmp.Lexicographic.{pointwise}
use Rattle.std.specs.List.{AllZip}
use Rattle.allocator_api2.specs.Growth.{amortized}
use Rattle.allocator_api2.specs.declared.raw_vec.Growth.{Growth}
use Rattle.aa_slots.specs.declared.key.KeyData.{KeyData}

-- the view of a slot map: its slots, each free or with the serial of a key and its value; the
-- number of values that it can hold without another allocation; its growth policy; the number of
-- times that it moved to new blocks, or grew its own; and the number of keys issued
pub record Slotted (T : Type 0) : Type 0 where
  pub slots : List (Option (ℕ × T))
  pub capacity : ℕ
  pub growth : Growth
  pub resizes : ℕ  -- each time to two: of the slots and of the values
  pub issued : ℕ

-- the capacity of a map of `c` slots, all full, after it has grown by the policy `g`, by 4 at least
abbrev pub grown : (g : Growth) → (c : ℕ) → ℕ
grown g c = amortized g c 0 (c + 4)

-- the number of resizes of a new map with the capacity `c`
abbrev pub fresh_resizes : (c : ℕ) → ℕ
fresh_resizes c = if c == 0 then 0 else 1

-- an empty map in new blocks for `n` values that grow by the policy `g`, which has issued no keys
abbrev pub empty : {T : Type 0} → (n : ℕ) → (g : Growth) → Slotted T
empty n g =
    record { slots = []; capacity = n; growth = g; resizes = fresh_resizes n; issued = 0 }

-- the number of resizes of a map with `n` slots and the capacity `c` after it shrank to these: the
-- old number `r` if `c` is `n`, else also those of a new map
abbrev pub shrunk_resizes : (r c n : ℕ) → ℕ
shrunk_resizes r c n = if c == n then r else r + fresh_resizes n

module _ {X : Type 0} where
  -- the list with `x` at index `i`, which is at most its length
  abbrev pub with_at : List X → (i : ℕ) → X → List X
  with_at [] i x = x ∷ []
  with_at (y ∷ ys) zero x = x ∷ ys
  with_at (y ∷ ys) (suc i) x = y ∷ with_at ys i x

module _ {T : Type 0} where
  -- the slot at index `i` of `ss`, free if there is no such slot
  abbrev pub slot_at : List (Option (ℕ × T)) → (i : ℕ) → Option (ℕ × T)
  slot_at ss i = slice_index_or ss i None

  -- the value that a slot has for the key with this serial
  abbrev pub value_under : (serial : ℕ) → Option (ℕ × T) → Option T
  value_under serial None = None
  value_under serial (Some e) = if nat_eq e.0 serial then Some e.1 else None

  -- the number of slots of `ss` with a value
  abbrev pub count : List (Option (ℕ × T)) → ℕ
  count ss = count_by is_some ss

  -- the value of the key `k` in the map `m`
  abbrev pub find : Slotted T → KeyData → Option T
  find m k = value_under k.serial (slot_at m.slots k.index)

  -- the keys and values of the slots that begin at index `i`
  abbrev pub entries_from : (i : ℕ) → List (Option (ℕ × T)) → List (KeyData × T)
  entries_from i [] = []
  entries_from i (None ∷ ss) = entries_from (i + 1) ss
  entries_from i (Some e ∷ ss) = (record { index = i; serial = e.0 }, e.1) ∷ entries_from (i + 1) ss

  -- the keys and values of the map `m`, in the order of the slots
  abbrev pub entries : Slotted T → List (KeyData × T)
  entries m = entries_from 0 m.slots

  -- the keys and values in the slots of `ss` before index `at`
  abbrev pub pairs_before : (ss : List (Option (ℕ × T))) → (at : ℕ) → List (KeyData × T)
  pairs_before ss at = entries_from 0 (take at ss)

  -- the keys and values in the slots of `ss` from index `at` on
  abbrev pub pairs_from : (ss : List (Option (ℕ × T))) → (at : ℕ) → List (KeyData × T)
  pairs_from ss at = entries_from at (drop at ss)

  -- the map `m` has spare capacity for `k` more values
  abbrev pub HasRoom : Slotted T → (k : ℕ) → Type 0
  HasRoom m k = k ≤ m.capacity - count m.slots

  -- the map `m` after it reserved `k` more values: exactly these, if its capacity was insufficient,
  -- and then both its blocks grew
  abbrev pub with_room : Slotted T → (k : ℕ) → Slotted T
  with_room m k =
      record m {
        capacity = if nat_le k (m.capacity - count m.slots)
            then m.capacity
            else count m.slots + k;
        resizes = if nat_le k (m.capacity - count m.slots) then m.resizes else m.resizes + 1;
      }

  -- the map `m` after it shrank to its slots
  abbrev pub shrunk : Slotted T → Slotted T
  shrunk m =
      record m {
        capacity = length m.slots;
        resizes = shrunk_resizes m.resizes m.capacity (length m.slots);
      }

  -- `new` has the key `k` with the value `x` in a slot that is free in `ss`, or in the next one
  pub record Puts (ss : List (Option (ℕ × T))) (k : KeyData) (x : T)
      (new : List (Option (ℕ × T))) : Type 0 where
    pub free : slot_at ss k.index ≡ None
    pub within : k.index ≤ length ss
    pub put : new ≡ with_at ss k.index (Some (k.serial, x))

  -- the map `m` with the value `x` for the key `k`, which has one
  abbrev pub with_value : Slotted T → KeyData → T → Slotted T
  with_value m k x = record m { slots = slice_set m.slots k.index (Some (k.serial, x)) }

  -- the map `m` without the value of the key `k`, which has one
  abbrev pub without : Slotted T → KeyData → Slotted T
  without m k = record m { slots = slice_set m.slots k.index None }

  -- the map `m` without its values
  abbrev pub cleared : Slotted T → Slotted T
  cleared m = record m { slots = [] }

  -- the slot `copy` is free as the given one is, or has a clone of its value for the same key
  abbrev pub IsClonedSlot : (clones : T → T → Type 0) → Option (ℕ × T) → Option (ℕ × T) → Type 0
  IsClonedSlot clones None copy = copy ≡ None
  IsClonedSlot clones (Some e) copy = (x : T) × (copy ≡ Some (e.0, x)) × clones e.1 x

  -- the map `copy` has a clone of each value of `m`, in the same slot for the same key; it has the
  -- growth policy of `m`, the blocks of a new map with capacity for exactly these slots, and has
  -- issued as many keys
  pub record IsClonedMap (clones : T → T → Type 0) (m copy : Slotted T) : Type 0 where
    pub each : AllZip (IsClonedSlot clones) m.slots copy.slots
    pub capacity : copy.capacity ≡ length m.slots
    pub growth : copy.growth ≡ m.growth
    pub resizes : copy.resizes ≡ fresh_resizes (length m.slots)
    pub issued : copy.issued ≡ m.issued

  -- the keys are equal, and so are the values by `same`
  abbrev pub same_entry : (same : T → T → Bool) → KeyData × T → KeyData × T → Bool
  same_entry same e f =
      (nat_eq e.0.index f.0.index && nat_eq e.0.serial f.0.serial) && same e.1 f.1

  -- both maps have the same keys, with values that are equal by `same`
  abbrev pub same_entries : (same : T → T → Bool) → Slotted T → Slotted T → Bool
  same_entries same m n = pointwise (same_entry same) (entries m) (entries n)
