-- The model of a ring: what contracts see.
use Rattle.std.specs.Prelude.{ℕ, ◌+◌, ◌-◌, ◌≤◌, List, [], drop, length, min, slice_index_or, slice_set, nat_le, if◌then◌else◌}
use Rattle.allocator_api2.specs.Growth.{amortized, min_capacity, new_capacity}
pub use Rattle.allocator_api2.specs.Growths.{Growths, of_new, with_growth, with_shrink}
use Rattle.allocator_api2.specs.Room as Room
use Rattle.allocator_api2.specs.declared.collections.TryReserveError.{TryReserveError}
use Rattle.allocator_api2.specs.declared.raw_vec.Growth.{Growth}

-- the list `xs` without the item at `index`, whose place the first item takes; `d` is read only of
-- an empty list
abbrev pub swap_remove_front : {T : Type 0} → List T → (index : ℕ) → (d : T) → List T
swap_remove_front xs index d = drop 1 (slice_set xs index (slice_index_or xs 0 d))

-- a list with a capacity, in a block that counts the elements it moves and writes
pub record Ringed (T A : Type 0) : Type 0 where
  pub items : List T
  pub capacity : ℕ  -- how many items fit before the ring allocates
  pub growth : Growth
  pub grown : Growths  -- what its memory has cost so far
  pub written : ℕ  -- items written into places so far; `make_contiguous` counts each item once
  pub alloc : A

module _ {T A : Type 0} where
  -- an empty ring over `a`, in a new block for `n` items of `size` bytes that grows by `g`
  abbrev pub empty : (size n : ℕ) → Growth → A → Ringed T A
  empty size n g a =
      record {
        items = [];
        capacity = new_capacity size n;
        growth = g;
        grown = of_new size n;
        written = 0;
        alloc = a;
      }

  -- `k` more items fit in `r`
  abbrev pub HasRoom : Ringed T A → ℕ → Type 0
  HasRoom r k = k ≤ r.capacity - length r.items

  -- `r` with the items `xs`
  abbrev pub with_items : Ringed T A → List T → Ringed T A
  with_items r xs = record r { items = xs }

  -- `r` with the items `xs`, after `n` items were written
  abbrev pub with_written : Ringed T A → List T → (n : ℕ) → Ringed T A
  with_written r xs n = record r { items = xs; written = r.written + n }

  -- `r` with the items `xs`, after its items were moved into one slice, which counts each of them as
  -- written once
  abbrev pub contiguous : Ringed T A → (xs : List T) → Ringed T A
  contiguous r xs = with_written r xs (length r.items)

  -- `r` with capacity for `n` items of `size` bytes, in a new block; or with its own if that is no
  -- more
  abbrev pub with_less : (size : ℕ) → Ringed T A → (n : ℕ) → Ringed T A
  with_less size r n =
      let c = new_capacity size n in
      record r {
        capacity = min r.capacity c;
        grown = if nat_le r.capacity c then r.grown else with_shrink r.grown r.capacity c;
      }

  -- `r` after a shrink to `n` items of `size` bytes: if it had more capacity, its items were moved
  -- into one slice
  abbrev pub shrunk : (size : ℕ) → Ringed T A → (n : ℕ) → Ringed T A
  shrunk size r n = if nat_le r.capacity n then r else with_less size (contiguous r r.items) n

  -- the capacity that `r` requests when it grows for `k` more items of `size` bytes
  abbrev pub growth_capacity : (size : ℕ) → Ringed T A → (k : ℕ) → ℕ
  growth_capacity size r k = amortized r.growth r.capacity (length r.items + k) (min_capacity size)

  -- `r` after capacity for `k` more items was reserved: if they did not fit, all items were moved
  -- once
  abbrev pub with_room : (size : ℕ) → Ringed T A → (k : ℕ) → Ringed T A
  with_room size r k =
      record r {
        capacity = if nat_le k
            (r.capacity - length r.items) then r.capacity else growth_capacity size r k;
        grown =
            if nat_le k (r.capacity - length r.items) then r.grown
            else with_growth r.grown (length r.items) r.capacity (growth_capacity size r k);
      }

  -- `r` after capacity for exactly `k` more items was reserved: if they did not fit, its items were
  -- moved into one slice, and then once to a block for no more than these
  abbrev pub with_exact_room : Ringed T A → (k : ℕ) → Ringed T A
  with_exact_room r k =
      let n = length r.items in
      let whole = contiguous r r.items in
      if nat_le k (r.capacity - n) then r
      else record whole { capacity = n + k; grown = with_growth r.grown n r.capacity (n + k) }

  -- `k` more items did not fit in `r`, and growing failed with `error`
  abbrev pub LacksRoom : (size : ℕ) → Ringed T A → (k : ℕ) → TryReserveError → Type 0
  LacksRoom size r k error = Room.LacksRoom size r.capacity (length r.items) k
      (growth_capacity size r k) error

  -- `k` more items did not fit in `r`, and growing to exactly the new length failed with `error`
  abbrev pub LacksExactRoom : (size : ℕ) → Ringed T A → (k : ℕ) → TryReserveError → Type 0
  LacksExactRoom size r k error =
      let n = length r.items in Room.LacksRoom size r.capacity n k (n + k) error
