-- A vector as contracts see it, and how it reserves capacity.
use Rattle.std.specs.Prelude.{◌≡◌, ℕ, ◌+◌, ◌-◌, ◌≤◌, min, List, [], drop, length, Option, if◌then◌else◌, nat_le}
use Rattle.aa_raw.specs.Block.{Block}
use Rattle.aa_raw.specs.Places.{run}
use Rattle.aa_raw.specs.declared.raw_vec.Growth.{Growth}
use Rattle.aa_raw.specs.declared.raw_vec.Growth.TheVariants.{Doubling}
use Rattle.aa_raw.specs.declared.collections.TryReserveError.{TryReserveError}
pub use Rattle.aa_raw.specs.Growth.{new_capacity}
pub use Rattle.aa_raw.specs.Growths.{Growths, of_new, with_growth, with_shrink}
use Rattle.aa_raw.specs.Growth.{amortized, min_capacity}
pub use Rattle.aa_raw.specs.Room.{moved_over, run_count}
use Rattle.aa_raw.specs.Room as Room

-- a list with a capacity, in a block that counts its operations
pub record Vector (T A : Type 0) : Type 0 where
  pub items : List T
  pub capacity : ℕ  -- the number of items without growing, `usize::MAX` for zero-sized elements
  pub growth : Growth
  pub grown : Growths  -- what its memory has cost so far
  pub written : ℕ  -- elements written into places so far
  pub runs : ℕ  -- calls of the block that wrote any so far
  pub alloc : A
  -- the places after the items: only calls that remove a range say what they hold
  pub spare : List (Option T)

module _ {T A : Type 0} where
  -- the number of items of `v`
  abbrev pub len : Vector T A → ℕ
  len v = length v.items

  -- `v` has spare capacity for `k` more elements
  abbrev pub HasRoom : Vector T A → ℕ → Type 0
  HasRoom v k = k ≤ v.capacity - length v.items

  -- `v` with capacity for `k` more than `n` elements of `size` bytes: if they did not fit, the
  -- block grew by its policy and the `n` elements were moved
  abbrev pub with_room : (size : ℕ) → Vector T A → (n k : ℕ) → Vector T A
  with_room size v n k =
      let c = amortized v.growth v.capacity (n + k) (min_capacity size) in
      record v {
        capacity = if nat_le k (v.capacity - n) then v.capacity else c;
        grown = if nat_le k (v.capacity - n)
            then v.grown
            else with_growth v.grown n v.capacity c;
      }

  -- `v` with capacity for `k` more than `n` elements: if they did not fit, the block grew to
  -- exactly `n + k` places and the `n` elements were moved
  abbrev pub with_exact_room : Vector T A → (n k : ℕ) → Vector T A
  with_exact_room v n k =
      record v {
        capacity = if nat_le k (v.capacity - n) then v.capacity else n + k;
        grown = if nat_le k (v.capacity - n)
            then v.grown
            else with_growth v.grown n v.capacity (n + k);
      }

  -- `v` with capacity for `n` elements of `size` bytes, in a new block; or with its own if that is
  -- no more
  abbrev pub with_less : (size : ℕ) → Vector T A → (n : ℕ) → Vector T A
  with_less size v n =
      let c = new_capacity size n in
      record v {
        capacity = min v.capacity c;
        grown = if nat_le v.capacity c then v.grown else with_shrink v.grown v.capacity c;
      }

  -- `old` has no spare capacity for `k` more elements, and growing by its policy failed with this
  -- `error`
  abbrev pub LacksRoom : (size : ℕ) → Vector T A → (k : ℕ) → TryReserveError → Type 0
  LacksRoom size old k error =
      let n = length old.items in
      Room.LacksRoom size old.capacity n k (amortized old.growth old.capacity (n + k)
      (min_capacity size))
      error

  -- `old` has no spare capacity for `k` more elements, and growing to exactly the new length failed
  -- with this `error`
  abbrev pub LacksExactRoom : (size : ℕ) → Vector T A → (k : ℕ) → TryReserveError → Type 0
  LacksExactRoom size old k error =
      let n = length old.items in Room.LacksRoom size old.capacity n k (n + k) error

  -- `v` is new and empty, with capacity for `n` elements of `size` bytes, over the allocator `a`
  pub record IsNew (size n : ℕ) (a : A) (v : Vector T A) : Type 0 where
    pub items : v.items ≡ []
    pub capacity : v.capacity ≡ new_capacity size n
    pub growth : v.growth ≡ Doubling
    pub grown : v.grown ≡ of_new size n
    pub written : v.written ≡ 0
    pub runs : v.runs ≡ 0
    pub alloc : v.alloc ≡ a

  -- `new` has the block of `old`
  pub record SameBlock (old new : Vector T A) : Type 0 where
    pub capacity : new.capacity ≡ old.capacity
    pub growth : new.growth ≡ old.growth
    pub grown : new.grown ≡ old.grown
    pub alloc : new.alloc ≡ old.alloc

  -- `new` has the items `xs`, and the block of `old` with capacity reserved for `k` more elements
  pub record GrowsTo (size : ℕ) (old : Vector T A) (k : ℕ) (xs : List T)
      (new : Vector T A) : Type 0 where
    pub items : new.items ≡ xs
    pub room : SameBlock (with_room size old (length old.items) k) new

  -- `new` has the items `xs`, in the block of `old`
  pub record Holds (old : Vector T A) (xs : List T) (new : Vector T A) : Type 0 where
    pub items : new.items ≡ xs
    pub block : SameBlock old new

  -- `new` is `old` after `k` calls of the block that wrote `n` elements into places
  pub record Writes (old : Vector T A) (n k : ℕ) (new : Vector T A) : Type 0 where
    pub written : new.written ≡ old.written + n
    pub runs : new.runs ≡ old.runs + k

  -- `new` is `old` with the items `xs`, after `k` calls of the block that wrote `n` elements; the
  -- places after the items are left open
  abbrev pub Becomes : (old : Vector T A) → (xs : List T) → (n k : ℕ) → (new : Vector T A) → Type 0
  Becomes old xs n k new =
      new
      ≡ record old {
        items = xs;
        written = old.written + n;
        runs = old.runs + k;
        spare = new.spare;
      }

  -- the vector of the values in the first `n` places of the block `b`
  abbrev pub vector_in : Block T A → ℕ → Vector T A
  vector_in b n =
      record {
        items = run b.places 0 n;
        capacity = length b.places;
        growth = b.growth;
        grown = b.grown;
        written = b.written;
        runs = b.runs;
        alloc = b.alloc;
        spare = drop n b.places;
      }

  -- `v` with the items `xs`, as many as it had
  abbrev pub with_items : Vector T A → List T → Vector T A
  with_items v xs = record v { items = xs }
