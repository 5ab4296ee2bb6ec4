-- The slots of a table: their tags, and the probe groups in which a hash is searched.
use Rattle.std.specs.Prelude.{◌≡◌, ◌≢◌, ℕ, zero, suc, ◌+◌, ◌-◌, ◌*◌, ◌/◌, ◌%◌, ◌^◌, ◌<◌, ◌≤◌, min, max, cond, nat_lt, nat_le, ◌==◌, ◌&&◌, ◌||◌, bit_and, Bool, false, List, [], ◌∷◌, Option, None, Some, length, get_or, slice_index_or, ◌⊎◌}
use Rattle.std.specs.Int.{div_ceil, IsNextPowerOfTwo}
use Rattle.allocator_api2.specs.Growth.{usize_max}
use Rattle.aa_table.specs.declared.slots.Overflow.{Overflow}

-- the tag (control byte) of slot `s`, 0 if there is no such slot
abbrev pub tag_at : List ℕ → ℕ → ℕ
tag_at ts s = slice_index_or ts s 0

-- the tag for keys with this hash, which is never that of a free slot
abbrev pub tag_of : ℕ → ℕ
tag_of hash = max (hash / 2 ^ 56) 1

-- the home slot of a hash in a table with `n` slots
abbrev pub home_of : (n hash : ℕ) → ℕ
home_of n hash = bit_and hash (n - 16 - 1)

-- the probe group that is `step` steps after the group `home`, of `n` groups in a circle
abbrev pub probe_group_of : (n home step : ℕ) → ℕ
probe_group_of n home step = cond (nat_lt (home + step) n) (home + step) (home + step - n)

-- the first slot of the group that a search for the hash visits after `step` steps, in `n` slots:
-- the home slot, and then group by group
abbrev pub probe_start : (n hash step : ℕ) → ℕ
probe_start n hash zero = home_of n hash
probe_start n hash (suc s) = 16 * probe_group_of (n / 16) (home_of n hash / 16) (suc s)

-- the overflow byte of the home slot `s`, empty if there is no such slot
abbrev pub overflow_at : List Overflow → (home : ℕ) → Overflow
overflow_at bs s = slice_index_or bs s (record { byte = 0 })

-- the overflow count: the number of keys that overflowed the home group, where 15 means 15 or more
abbrev pub overflow_count : Overflow → ℕ
overflow_count b = b.byte / 16

-- the number of further groups that a search visits, where 15 means all groups
abbrev pub overflow_groups : Overflow → ℕ
overflow_groups b = b.byte % 16

-- the overflow byte `b` with one more key, which is `step` groups away
abbrev pub one_more : Overflow → (step : ℕ) → Overflow
one_more b step =
    record { byte = 16 * min 15 (overflow_count b + 1) + min 15 (max (overflow_groups b) step) }

-- the overflow byte `b` with one key less
abbrev pub one_less : Overflow → Overflow
one_less b =
    record {
      byte = cond (overflow_count b == 15) b.byte
          (cond (nat_le (overflow_count b) 1) 0 (b.byte - 16));
    }

-- the number of groups that a search for the hash visits after the home group, in `n` slots
abbrev pub reach_of : List Overflow → (n hash : ℕ) → ℕ
reach_of bs n hash =
    let b = overflow_groups (overflow_at bs (home_of n hash)) in
    cond (b == 15) (n / 16) (min (n / 16) b)

-- the tags `ts` and overflow bytes `bs` are those of whole groups of slots, more than one group
pub record IsSlots (ts : List ℕ) (bs : List Overflow) : Type 0 where
  pub groups : length ts ≡ 16 * (length ts / 16)
  pub each : length bs ≡ length ts
  pub more : 17 ≤ length ts

-- a table with this capacity, which is not 0, has `slots` slots: a group of sixteen for each
-- fourteen keys, the number of groups rounded up to a power of two, and one group more
abbrev pub IsSlotCount : (capacity slots : ℕ) → Type 0
IsSlotCount capacity slots =
    (slots ≡ 16 * (slots / 16)) × IsNextPowerOfTwo (div_ceil capacity 14) (slots / 16 - 1)

-- there are as many places as slots, or at least `usize::MAX` places, as for zero-sized entries
abbrev pub HasPlaces : (slots places : ℕ) → Type 0
HasPlaces slots places = places ≡ slots ⊎ usize_max ≤ places

-- a table with this capacity has `slots` slots and `places` places, and no slots if it is 0
pub record IsMemory (capacity slots places : ℕ) : Type 0 where
  pub none : capacity ≡ 0 → slots ≡ 0
  pub some : 0 < capacity → IsSlotCount capacity slots
  pub enough : HasPlaces slots places

-- a search for the hash reaches slot `s`, which has the tag of the hash
pub record ProbeReaches (ts : List ℕ) (bs : List Overflow) (hash s : ℕ) : Type 0 where
  pub steps : ℕ
  pub within : steps ≤ reach_of bs (length ts) hash
  pub from : probe_start (length ts) hash steps ≤ s
  pub to : s < probe_start (length ts) hash steps + 16
  pub tag : tag_at ts s ≡ tag_of hash

-- the key with this hash has the home slot `home`, and slot `s` is outside its home group
abbrev pub is_overflow : (n home s : ℕ) → Option ℕ → Bool
is_overflow n home s None = false
is_overflow n home s (Some hash) = (home_of n hash == home) &&
    (nat_lt s home || nat_le (home + 16) s)

-- the number of keys in slots from `s` on that overflowed the home group of `home`
unfoldable pub overflow_from : (n home s : ℕ) → List (Option ℕ) → ℕ
overflow_from n home s [] = 0
overflow_from n home s (h ∷ hs) = cond (is_overflow n home s h) 1 0 + overflow_from n home
    (suc s) hs

-- tags and overflow bytes are an index of the hashes `hs`: a search for each hash reaches its slot,
-- all other slots are free, and the overflow counts are no less than the keys that overflowed
pub record IsIndex (ts : List ℕ) (bs : List Overflow) (hs : List (Option ℕ)) : Type 0 where
  pub slots : IsSlots ts bs
  pub places : length ts ≤ length hs
  pub reachable : (s hash : ℕ) → get_or hs s None ≡ Some hash → ProbeReaches ts bs hash s
  pub free : (s : ℕ) → get_or hs s None ≡ None → tag_at ts s ≡ 0
  pub counted : (s : ℕ) → s < length bs → overflow_count (overflow_at bs s) ≢ 15
      → overflow_from (length ts) s 0 hs ≤ overflow_count (overflow_at bs s)
