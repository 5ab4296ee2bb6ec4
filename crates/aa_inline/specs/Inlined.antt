-- The model of a small vector: what contracts see.
use Rattle.std.specs.Prelude.{ℕ, ◌+◌, ◌-◌, ◌≤◌, Bool, min, false, true, List, length, nat_le, if◌then◌else◌}
use Rattle.allocator_api2.specs.Growth.{amortized, min_capacity, new_capacity}
pub use Rattle.allocator_api2.specs.Growths.{Growths, of_new, with_growth, with_shrink}
use Rattle.allocator_api2.specs.Room as Room
use Rattle.allocator_api2.specs.Slice.{Slice}
use Rattle.allocator_api2.specs.Vector.{Vector}
use Rattle.allocator_api2.specs.declared.collections.TryReserveError.{TryReserveError}
use Rattle.allocator_api2.specs.declared.raw_vec.Growth.TheVariants.{Doubling}

-- a list that is inline, or in a block once it was too long for that; its counts are those of the
-- block, and begin anew once the items are inline again
pub record Inlined (T A : Type 0) : Type 0 where
  pub items : List T
  pub spilled : Bool  -- whether the items are in a block
  pub block : ℕ  -- the capacity of the block, 0 if there is none
  pub grown : Growths  -- what the memory of the block has cost so far, nothing if there is none
  pub written : ℕ  -- items written into places of the block so far, 0 if there is none
  pub alloc : A

-- the capacity that a block of `c` places requests when it grows for `n` items of `size` bytes
abbrev pub grown_to : (size c n : ℕ) → ℕ
grown_to size c n = amortized Doubling c n (min_capacity size)

-- a new block for `needed` items of `size` bytes could not be allocated, with `error`
unfoldable pub LacksBlock : (size needed : ℕ) → TryReserveError → Type 0
LacksBlock size needed error =
    let c = new_capacity size 0 in Room.LacksRoom size c 0 needed (grown_to size c needed) error

module _ {T A : Type 0} where
  -- the items `xs`, inline, over the allocator `a`
  abbrev pub in_place : List T → A → Inlined T A
  in_place xs a =
      record {
        items = xs;
        spilled = false;
        block = 0;
        grown = record { moved = 0; blocks = 0; held = 0 };
        written = 0;
        alloc = a;
      }

  -- how many items fit in `s` before it allocates, if `N` fit inline
  abbrev pub capacity : (N : ℕ) → Inlined T A → ℕ
  capacity N s = if s.spilled then s.block else N

  -- `k` more items fit in `s`
  abbrev pub HasRoom : (N : ℕ) → Inlined T A → (k : ℕ) → Type 0
  HasRoom N s k = k ≤ capacity N s - length s.items

  -- `s` with the items `xs`
  abbrev pub with_items : Inlined T A → List T → Inlined T A
  with_items s xs = record s { items = xs }

  -- `s` with the items `xs`, after `n` items were written to the block, if there is one
  abbrev pub with_written : Inlined T A → List T → (n : ℕ) → Inlined T A
  with_written s xs n = record s { items = xs; written = s.written + (if s.spilled then n else 0) }

  -- the capacity of the block of `s` before it grows: that of a new one is 0, or the maximum for
  -- zero-sized items
  abbrev pub places : (size : ℕ) → Inlined T A → ℕ
  places size s = if s.spilled then s.block else new_capacity size 0

  -- `s` with its items in a block with capacity for `needed` items of `size` bytes: if it had less
  -- it grew, and moved the items in it; inline items were written to it
  unfoldable pub in_block : (size needed : ℕ) → Inlined T A → Inlined T A
  in_block size needed s =
      let c = places size s in let m = grown_to size c needed in let n = length s.items in
      record s {
        spilled = true;
        block = if nat_le needed c then c else m;
        grown =
            if nat_le needed c then s.grown
            else with_growth s.grown (if s.spilled then n else 0) c m;
        written = s.written + (if s.spilled then 0 else n);
      }

  -- `s` after capacity for `k` more items was reserved: if they did not fit, all items were moved
  -- once
  unfoldable pub with_room : (size N : ℕ) → Inlined T A → (k : ℕ) → Inlined T A
  with_room size N s k =
      if nat_le k (capacity N s - length s.items) then s
      else in_block size (length s.items + k) s

  -- `k` more items did not fit in `s`, and growing failed with `error`
  unfoldable pub LacksRoom : (size N : ℕ) → Inlined T A → (k : ℕ) → TryReserveError → Type 0
  LacksRoom size N s k error =
      let n = length s.items in
      Room.LacksRoom size (capacity N s) n k (grown_to size (places size s) (n + k)) error

  -- `s` with its items, of `size` bytes each, in a block
  unfoldable pub all_in_block : (size : ℕ) → Inlined T A → Inlined T A
  all_in_block size s = if s.spilled then s else in_block size (length s.items) s

  -- the vector `v` as a small vector whose items are in its block
  abbrev pub block_of : Vector T A → Inlined T A
  block_of v =
      record {
        items = v.items;
        spilled = true;
        block = v.capacity;
        grown = v.grown;
        written = v.written;
        alloc = v.alloc;
      }

  -- `s`, which is inline, after its items were moved to a new block of `c` places of `size` bytes
  unfoldable pub in_new_block : (size c : ℕ) → Inlined T A → Inlined T A
  in_new_block size c s =
      record s {
        spilled = true;
        block = new_capacity size c;
        grown = of_new size c;
        written = s.written + length s.items;
      }

  -- `s` with capacity for `c` items of `size` bytes, in a new block; or with its own if that is no
  -- more
  abbrev pub with_less : (size c : ℕ) → Inlined T A → Inlined T A
  with_less size c s =
      let m = new_capacity size c in
      record s {
        block = min s.block m;
        grown = if nat_le s.block m then s.grown else with_shrink s.grown s.block m;
      }

  -- `s` after its block grew to `c` places, and its items were moved
  abbrev pub with_more : (c : ℕ) → Inlined T A → Inlined T A
  with_more c s =
      record s { block = c; grown = with_growth s.grown (length s.items) s.block c }

  -- `s` after its block was shrunk or grew to `c` places of `size` bytes
  unfoldable pub resized : (size c : ℕ) → Inlined T A → Inlined T A
  resized size c s = if nat_le c s.block then with_less size c s else with_more c s

  -- `s` with its items in a block of `c` places of `size` bytes
  abbrev pub with_block : (size c : ℕ) → Inlined T A → Inlined T A
  with_block size c s = if s.spilled then resized size c s else in_new_block size c s

  -- `s` with its items inline: it has no block then, and counts nothing
  abbrev pub back_in_place : Inlined T A → Inlined T A
  back_in_place s = if s.spilled then in_place s.items s.alloc else s

  -- `s` with exactly `c` places of `size` bytes: inline if `N` are enough, else in a block
  unfoldable pub with_places : (size N c : ℕ) → Inlined T A → Inlined T A
  with_places size N c s =
      if nat_le c N then back_in_place s else with_block size c s

  -- `s` shrunk to `c` places of `size` bytes: inline if `N` are enough, else with its block, if it
  -- has one, shrunk to these
  unfoldable pub shrunk : (size N c : ℕ) → Inlined T A → Inlined T A
  shrunk size N c s =
      if nat_le c N then back_in_place s
      else if s.spilled then with_less size c s else s

  -- the items of `s`, of `size` bytes each, as a boxed slice in a block of exactly these: its own,
  -- shrunk, or a new one
  abbrev pub boxed : (size : ℕ) → Inlined T A → Slice T A
  boxed size s =
      let n = length s.items in
      record {
        items = s.items;
        growth = Doubling;
        grown = if s.spilled then (with_less size n s).grown else of_new size n;
        alloc = s.alloc;
      }
