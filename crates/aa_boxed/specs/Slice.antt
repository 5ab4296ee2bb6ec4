-- The model of a `BoxedSlice`, and of the builder that becomes one.
use Rattle.std.specs.Prelude.{◌≡◌, ℕ, ◌+◌, ◌-◌, ◌*◌, ◌^◌, ◌<◌, ◌≤◌, ◌==◌, min, max, List, [], ◌∷◌, ◌++◌, length, nat_le, if◌then◌else◌, Option, None, Result, IfOk, IfErr, ◌⊎◌}
use Rattle.std.specs.Iterator.{Count, YieldsThen, size as most_left}
use Rattle.std.specs.Iterator.Runs.{WholeRun}
use Rattle.aa_raw.specs.Growth.{amortized, min_capacity, new_capacity}
use Rattle.aa_raw.specs.Growths.{Growths, of_new, with_growth, with_shrink}
use Rattle.aa_raw.specs.Room.{LacksRoom}
use Rattle.aa_raw.specs.declared.collections.TryReserveError.{TryReserveError}
use Rattle.aa_raw.specs.declared.collections.TryReserveErrorKind.TheVariants.{AllocError}
use Rattle.aa_raw.specs.declared.raw_vec.Growth.{Growth}
use Rattle.aa_raw.specs.declared.raw_vec.Growth.TheVariants.{Doubling}
use Rattle.aa_raw.specs.Block.{Block}
use Rattle.aa_raw.specs.Places.{run}
use Rattle.aa_boxed.specs.Hints.{LowerAtMost, Takes}

-- a list that fills its block exactly; the block keeps its growth policy for the vector that the
-- list may become
pub record Slice (T A : Type 0) : Type 0 where
  pub items : List T
  pub growth : Growth
  pub grown : Growths  -- what its memory has cost so far
  pub alloc : A

-- a list under construction, in a block with capacity for `capacity` items
pub record Building (T A : Type 0) : Type 0 where
  pub items : List T
  pub capacity : ℕ
  pub growth : Growth
  pub grown : Growths
  pub alloc : A

module _ {T A : Type 0} where
  -- the boxed slice of the items `xs`, of `size` bytes, in a new block of the allocator `a`
  abbrev pub new_slice : (size : ℕ) → List T → A → Slice T A
  new_slice size xs a =
      record { items = xs; growth = Doubling; grown = of_new size (length xs); alloc = a }

  -- a builder without items, in a new block with capacity for `n` items of `size` bytes
  abbrev pub empty_builder : (size n : ℕ) → Growth → A → Building T A
  empty_builder size n g a =
      record {
        items = [];
        capacity = new_capacity size n;
        growth = g;
        grown = of_new size n;
        alloc = a;
      }

  -- the boxed slice `s` with the items `xs`, as many as it had
  abbrev pub with_items : Slice T A → List T → Slice T A
  with_items s xs = record { items = xs; growth = s.growth; grown = s.grown; alloc = s.alloc }

  -- the first `n` values of the block `b` as a boxed slice
  abbrev pub slice_of : Block T A → ℕ → Slice T A
  slice_of b n =
      record { items = run b.places 0 n; growth = b.growth; grown = b.grown; alloc = b.alloc }

  -- the items of the builder `b` as a boxed slice
  abbrev pub finished : Building T A → Slice T A
  finished b = record { items = b.items; growth = b.growth; grown = b.grown; alloc = b.alloc }

  -- the builder `b` with capacity for `k` more items of `size` bytes: if they did not fit, its block
  -- grew by its policy and the items were moved
  abbrev pub with_room : (size : ℕ) → Building T A → (k : ℕ) → Building T A
  with_room size b k =
      let n = length b.items in let c = amortized b.growth b.capacity (n + k) (min_capacity size) in
      record b {
        capacity = if nat_le (n + k) b.capacity then b.capacity else c;
        grown = if nat_le (n + k) b.capacity then b.grown else with_growth b.grown n b.capacity c;
      }

  -- the builder `b` with a block of exactly its items, of `size` bytes: its own, or a new one.
  -- Zero-sized items keep all their places
  abbrev pub shrunk : (size : ℕ) → Building T A → Building T A
  shrunk size b =
      let n = length b.items in
      record b {
        capacity = if size == 0 then b.capacity else n;
        grown = if size == 0
            then b.grown
            else (if n == b.capacity then b.grown else with_shrink b.grown b.capacity n);
      }

  -- the builder `b` with the item `x` appended
  abbrev pub with_pushed : Building T A → T → Building T A
  with_pushed b x = record b { items = b.items ++ x ∷ [] }

  -- the builder `b` with the items `xs` appended
  abbrev pub with_appended : Building T A → List T → Building T A
  with_appended b xs = record b { items = b.items ++ xs }

-- `after` is the rest of the iterator `iter`, and `LowerIs` says what the lower bound of its size
-- hint may be in each state
module _ {S T : Type 0} (steps : S → Option T → S → Type 0) (LowerIs : S → ℕ → Type 0) (size : ℕ)
    (iter : S) (error : TryReserveError) (after : S) where
  -- `iter` yielded the items `placed`, of `size` bytes, and then `item`. Reserving capacity for it
  -- and the lower bound of those after it, or for `usize::MAX`, failed with `error`
  abbrev pub FailsAtItem : Type 0
  FailsAtItem = Takes steps LowerIs iter (λ lower xs last. (last ≡ after)
      × (placed : List T) × (item : T) × (xs ≡ placed ++ item ∷ [])
      × (size ≡ 0 → 2 ^ 64 - 1 ≤ length placed)
      × let n = length placed in let more = min (lower 0 + 1) (2 ^ 64 - 1) in
      LacksRoom size n n more (amortized Doubling n (n + more) (min_capacity size)) error)

  -- `iter` yielded all its items, one or more of `size` bytes, and then the allocation of a block
  -- for exactly these failed
  abbrev pub FailsAtEnd : Type 0
  FailsAtEnd = Takes steps LowerIs iter (λ lower xs last. steps last None after
      × (0 < length xs) × (0 < size) × (error.kind ≡ AllocError (length xs)))

  -- an allocation for the items of `iter` failed with `error`, while they came or at their end
  abbrev pub FromIterFails : Type 0
  FromIterFails = FailsAtItem ⊎ FailsAtEnd

-- `g` is what a block has cost that doubled while `n` items of `size` bytes came, out of an iterator
-- of at most `most`, and that was then shrunk to these
pub record CollectCost (size n most : ℕ) (g : Growths) : Type 0 where
  -- nothing is allocated for zero-sized items, or for none
  pub nothing : (size ≡ 0) ⊎ (n ≡ 0) → g ≡ record { moved = 0; blocks = 0; held = 0 }
  -- growth allocates at most `2 + log2 n` blocks, and the shrink at most one
  pub blocks : 2 ^ (g.blocks - 1) ≤ max 1 (4 * n)
  pub moved : g.moved ≤ 2 * n
  pub held : g.held ≤ most + max 8 (2 * most)

-- `iter` was collected over the allocator `a`, and `after` is what is left of it; the result is the
-- boxed slice of its items, of `size` bytes each, or an error
pub record CollectResult {S T A : Type 0} (steps : S → Option T → S → Type 0)
    (remaining : S → Count) (size : ℕ) (iter : S) (a : A) (after : S)
    (result : Result (Slice T A) TryReserveError) : Type 0 where
  -- on success it has all items, in order
  pub items : IfOk result (λ b. YieldsThen steps iter b.items None after)
  pub runs : IfOk result (λ b. WholeRun steps iter (λ p. b.items ≡ p.items))
  -- and would grow by doubling
  pub growth : IfOk result (λ b. b.growth ≡ Doubling)
  pub grown : IfOk result
      (λ b. CollectCost size (length b.items) (most_left (remaining iter)) b.grown)
  pub alloc : IfOk result (λ b. b.alloc ≡ a)
  -- an error says which items were taken, and which allocation failed
  pub error : IfErr result (λ e. FromIterFails steps (LowerAtMost remaining) size iter e after)
