-- A list with a capacity: what contracts see of a `Fixed`, an `Arena` and a `TextBuilder`.
use Rattle.std.specs.Prelude.{ℕ, ◌+◌, ◌-◌, ◌≤◌, List, [], length, nat_le, if◌then◌else◌}
use Rattle.allocator_api2.specs.Growth.{amortized, min_capacity}
use Rattle.allocator_api2.specs.Vector.{Vector}
use Rattle.allocator_api2.specs.declared.raw_vec.Growth.TheVariants.{Doubling}

-- a list, and how long it may be before memory is allocated
pub record Held (T : Type 0) : Type 0 where
  pub items : List T
  pub capacity : ℕ  -- how many values fit

-- the capacity after `k` more than `n` values of `size` bytes were reserved in `c` places: `c` if
-- they fit
abbrev pub reserved_capacity : (size c n k : ℕ) → ℕ
reserved_capacity size c n k = if nat_le k (c - n) then c else amortized Doubling c (n + k)
    (min_capacity size)

module _ {T : Type 0} where
  -- an empty list with capacity `c`
  abbrev pub empty : (c : ℕ) → Held T
  empty c = record { items = []; capacity = c }

  -- `v` with the values `xs`
  abbrev pub with_items : Held T → List T → Held T
  with_items v xs = record { items = xs; capacity = v.capacity }

  -- `k` more values fit in `v`
  abbrev pub HasRoom : Held T → ℕ → Type 0
  HasRoom v k = k ≤ v.capacity - length v.items

  -- `v` after capacity for `k` more values of `size` bytes was reserved
  abbrev pub with_room : (size : ℕ) → Held T → (k : ℕ) → Held T
  with_room size v k =
      record { items = v.items; capacity = reserved_capacity size v.capacity (length v.items) k }

  -- the values and the capacity of the vector `v`
  abbrev pub held_of : {A : Type 0} → Vector T A → Held T
  held_of v = record { items = v.items; capacity = v.capacity }
