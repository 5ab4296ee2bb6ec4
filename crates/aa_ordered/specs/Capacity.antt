-- The capacity of an ordered map, and the allocations that it requests.
use Rattle.std.specs.Prelude.{◌≡◌, ◌⊎◌, ℕ, ◌+◌, ◌-◌, ◌*◌, ◌/◌, ◌%◌, ◌^◌, ◌<◌, ◌≤◌, ◌==◌, ◌||◌, if◌then◌else◌, length, max, nat_le}
use Rattle.allocator_api2.specs.declared.collections.TryReserveError.{TryReserveError}
use Rattle.allocator_api2.specs.declared.collections.TryReserveErrorKind.TheVariants.{CapacityOverflow, AllocError}
use Rattle.aa_ordered.specs.Entries.{OrderedView}

-- the number of entries that a map with `leaves` leaves can always hold
abbrev pub capacity_of : (leaves : ℕ) → ℕ
capacity_of leaves = if leaves == 0 then 0 else (leaves + 1) * 32

-- the number of resizes of a new map with capacity for `n` entries
abbrev pub fresh_resizes : (n : ℕ) → ℕ
fresh_resizes n = if n == 0 then 0 else 1

-- the number of leaves of a map with this capacity
abbrev pub leaves_of : (capacity : ℕ) → ℕ
leaves_of capacity = capacity / 32 - 1

-- twice the number of leaves of a map with this capacity, or 1 if it has none
abbrev pub twice_leaves_of : (capacity : ℕ) → ℕ
twice_leaves_of capacity = max 1 (2 * leaves_of capacity)

-- the least number of leaves with capacity for `n` entries
abbrev pub leaves_for : (n : ℕ) → ℕ
leaves_for n = if n == 0 then 0 else max 1 ((n - 1) / 32)

-- `e` is an `AllocError` with the number of places in some leaves, at least `n` and less than `m`
abbrev pub IsAllocErrorWithin : TryReserveError → (n m : ℕ) → Type 0
IsAllocErrorWithin e n m =
    elim e.kind as (λ _. Type 0) [
      | CapacityOverflow ↦ ⊥
      | AllocError places ↦ (places % 64 ≡ 0) × (n ≤ places) × (places < m)
    ]

module _ {K V : Type 0} where
  -- the number of leaves that the map `m` requests for `k` more entries: at least twice as many
  abbrev pub requested_leaves : OrderedView K V → (k : ℕ) → ℕ
  requested_leaves m k = max (2 * leaves_of m.capacity) (leaves_for (length m.entries + k))

  -- the number of entries in the block that the map `m` requests for `k` more
  abbrev pub requested : OrderedView K V → (k : ℕ) → ℕ
  requested m k = requested_leaves m k * 64

  -- the capacity of the map `m` after a reserve of `k` more entries
  abbrev pub reserved_capacity : OrderedView K V → (k : ℕ) → ℕ
  reserved_capacity m k =
      if nat_le (length m.entries + k) m.capacity then m.capacity
      else capacity_of (requested_leaves m k)

  -- the number of resizes of the map `m` after a reserve of `k` more entries
  abbrev pub reserved_resizes : OrderedView K V → (k : ℕ) → ℕ
  reserved_resizes m k =
      if nat_le (length m.entries + k) m.capacity then m.resizes else m.resizes + 1

  -- the number of resizes of the map `m` once its capacity is `c`: one more, unless it was `c` before,
  -- or `c` is 0 and all blocks were freed
  abbrev pub resizes_to : OrderedView K V → (c : ℕ) → ℕ
  resizes_to m c = if (c == 0) || (c == m.capacity) then m.resizes else m.resizes + 1

  -- the map `u` has the capacity of `m`, or that of the leaves which `m` requests for one more entry
  abbrev pub MayGrowForOne : (m u : OrderedView K V) → Type 0
  MayGrowForOne m u =
      (u.capacity ≡ m.capacity) ⊎ (u.capacity ≡ capacity_of (requested_leaves m 1))

  -- from the map `m` to `u` each resize at least doubled the leaves, where none count as half of one
  abbrev pub FewResizes : (m u : OrderedView K V) → Type 0
  FewResizes m u =
      2 ^ (u.resizes - m.resizes) * twice_leaves_of m.capacity ≤ twice_leaves_of u.capacity
