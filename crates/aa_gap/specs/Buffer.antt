-- The model of a gap buffer: a text in two parts, and a block with ghost counters.
use Rattle.std.specs.Prelude.{ℕ, ◌+◌, ◌-◌, ◌*◌, ◌≤◌, max, List, [], ◌∷◌, ◌++◌, length, take, drop, nat_le, if◌then◌else◌}
use Rattle.aa_raw.specs.declared.raw_vec.Growth.{Growth}
use Rattle.aa_raw.specs.declared.raw_vec.Growth.TheVariants.{Doubling, Sparing, InPlace}
use Rattle.aa_raw.specs.declared.collections.TryReserveError.{TryReserveError}
use Rattle.aa_raw.specs.Growth.{amortized, min_capacity, new_capacity}
use Rattle.aa_raw.specs.Growths.{Growths, of_new, with_growth}
pub use Rattle.aa_raw.specs.Room.{run_count, moved_over}
use Rattle.aa_raw.specs.Room as Room

-- a text in two parts, and the capacity, the growth policy, the ghost counters and the allocator of
-- its block
pub record Buffer (T A : Type 0) : Type 0 where
  pub before : List T
  pub after : List T
  pub capacity : ℕ  -- how many elements fit
  pub growth : Growth
  pub grown : Growths  -- what its memory has cost so far
  pub written : ℕ  -- elements written into places so far
  pub runs : ℕ  -- calls that wrote any
  pub alloc : A

module _ {T A : Type 0} where
  -- the empty text in a new block for `n` elements of `size` bytes, with the growth policy `g` and
  -- the allocator `a`
  abbrev pub empty : (size n : ℕ) → Growth → A → Buffer T A
  empty size n g a =
      record {
        before = [];
        after = [];
        capacity = new_capacity size n;
        growth = g;
        grown = of_new size n;
        written = 0;
        runs = 0;
        alloc = a;
      }

  -- the whole text of `b`
  abbrev pub text : Buffer T A → List T
  text b = b.before ++ b.after

  -- the position of the cursor of `b`: how many elements are before it
  abbrev pub cursor : Buffer T A → ℕ
  cursor b = length b.before

  -- the length of the text of `b`
  abbrev pub len : Buffer T A → ℕ
  len b = length b.before + length b.after

  -- how many places of `b` are free
  abbrev pub gap : Buffer T A → ℕ
  gap b = b.capacity - len b

  -- `b` with the parts `before` and `after`
  abbrev pub with_parts : Buffer T A → (before after : List T) → Buffer T A
  with_parts b before after = record b { before = before; after = after }

  -- `b` after a call that wrote `n` elements
  abbrev pub with_written : Buffer T A → ℕ → Buffer T A
  with_written b n = record b { written = b.written + n; runs = b.runs + run_count n }

  -- `b` with the cursor at `position` of its text: the elements that it passes are moved across the
  -- gap
  abbrev pub moved_to : Buffer T A → (position : ℕ) → Buffer T A
  moved_to b position =
      let before = take position (text b) in let after = drop position (text b) in
      let passed = (cursor b - position) + (position - cursor b) in
      with_written (with_parts b before after) (moved_over (b.capacity - len b) passed)

  -- `b` with the elements `xs` in place of its text, after the cursor moved to the end
  abbrev pub contiguous : Buffer T A → (xs : List T) → Buffer T A
  contiguous b xs = with_parts (moved_to b (len b)) xs []

  -- `b` has spare capacity for `k` more elements
  abbrev pub HasRoom : Buffer T A → ℕ → Type 0
  HasRoom b k = k ≤ b.capacity - len b

  -- `b` with capacity reserved for `k` more elements of `size` bytes: if they do not fit, an
  -- amortized growth moved each element once
  abbrev pub with_room : (size : ℕ) → Buffer T A → (k : ℕ) → Buffer T A
  with_room size b k =
      let c = amortized b.growth b.capacity (len b + k) (min_capacity size) in
      let fits = nat_le k (b.capacity - len b) in
      record b {
        capacity = if fits then b.capacity else c;
        grown = if fits then b.grown else with_growth b.grown (len b) b.capacity c;
      }

  -- `b` with `x` inserted before the cursor, in the first free place
  abbrev pub put : Buffer T A → (x : T) → Buffer T A
  put b x = with_written (with_parts b (b.before ++ x ∷ []) b.after) 1

  -- while `n` elements were inserted into `old`, growth moved at most one element for each place
  -- that it added, or two if sparing. From a buffer without places that is at most two moves for
  -- each of the `n`, or three
  abbrev pub GrowsWithin : Growth → Buffer T A → (n : ℕ) → Buffer T A → Type 0
  GrowsWithin Doubling old n new =
      (new.grown.moved + old.capacity ≤ old.grown.moved + new.capacity)
      × (new.grown.moved + old.capacity ≤ old.grown.moved + max old.capacity (2 * (len old + n)))
  GrowsWithin Sparing old n new =
      (new.grown.moved + 2 * old.capacity ≤ old.grown.moved + 2 * new.capacity)
      × (new.grown.moved + 2 * old.capacity ≤ old.grown.moved + max (2 * old.capacity) (3 * (len old + n)))
  GrowsWithin InPlace old n new =
      (new.grown.moved + old.capacity ≤ old.grown.moved + new.capacity)
      × (new.grown.moved + old.capacity ≤ old.grown.moved + max old.capacity (2 * (len old + n)))

  -- `k` more elements of `size` bytes did not fit in `old`, and an amortized growth for them failed
  -- with `error`
  abbrev pub LacksRoom : (size : ℕ) → Buffer T A → (k : ℕ) → TryReserveError → Type 0
  LacksRoom size old k error =
      let n = len old in
      Room.LacksRoom size old.capacity n k (amortized old.growth old.capacity (n + k)
      (min_capacity size))
      error
