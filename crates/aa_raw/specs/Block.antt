-- The model of a `RawVec`, as contracts see it.
use Rattle.std.specs.Prelude.{◌≡◌, ℕ, ◌+◌, ◌-◌, ◌<◌, ◌≤◌, List, ◌++◌, length, take, replicate, Option, None, if◌then◌else◌, ◌==◌, nat_le, Result, IfErr, OnOk, IsOk}
use Rattle.aa_raw.specs.Growth.{amortized, min_capacity, usize_max}
pub use Rattle.aa_raw.specs.Growths.{Growths, of_new, with_growth, with_shrink}
use Rattle.aa_raw.specs.Places.{empty_places, moved, with_run}
use Rattle.aa_raw.specs.Room.{LacksRoom, run_count}
use Rattle.aa_raw.specs.declared.collections.TryReserveError.{TryReserveError}
use Rattle.aa_raw.specs.declared.raw_vec.Growth.{Growth}
use Rattle.aa_raw.specs.declared.raw_vec.ReserveKind.{ReserveKind}
use Rattle.aa_raw.specs.declared.raw_vec.ReserveKind.TheVariants.{Amortized, Exact}

-- the model of a block: its places, its growth policy, its counters and its allocator
pub record Block (X A : Type 0) : Type 0 where
  -- each place is empty or filled, and their number is the capacity
  pub places : List (Option X)
  pub growth : Growth
  -- what its memory has cost, the number of elements written into places, and of calls that wrote
  -- any
  pub grown : Growths
  pub written : ℕ
  pub runs : ℕ
  pub alloc : A

module _ {X A : Type 0} where
  -- a new block of empty places for `n` elements of `size` bytes, with the growth policy `g` and
  -- the allocator `a`
  abbrev pub fresh : (size n : ℕ) → Growth → A → Block X A
  fresh size n g a =
      record {
        places = empty_places size n;
        growth = g;
        grown = of_new size n;
        written = 0;
        runs = 0;
        alloc = a;
      }

  -- the block `b` with the places `cs`
  abbrev pub with_places : Block X A → List (Option X) → Block X A
  with_places b cs =
      record {
        places = cs;
        growth = b.growth;
        grown = b.grown;
        written = b.written;
        runs = b.runs;
        alloc = b.alloc;
      }

  -- the block `b` with the `n` places from the index `from` on emptied
  abbrev pub without : Block X A → (from n : ℕ) → Block X A
  without b from n = with_places b (with_run b.places from n (replicate n None))

  -- the block `b` after a call that wrote `n` elements, with places `cs`
  abbrev pub with_written : Block X A → List (Option X) → ℕ → Block X A
  with_written b cs n =
      record {
        places = cs;
        growth = b.growth;
        grown = b.grown;
        written = b.written + n;
        runs = b.runs + run_count n;
        alloc = b.alloc;
      }

  -- the block `b` after a call that moved the `n` values from the index `from` on to the index
  -- `to`. If the two are equal, nothing is written
  abbrev pub with_moved : Block X A → (from to n : ℕ) → Block X A
  with_moved b from to n = with_written b (moved b.places from to n) (if from == to then 0 else n)

  -- the block `b` after a growth to `c` places, which keeps the first `len`
  abbrev pub grown_to : Block X A → ℕ → ℕ → Block X A
  grown_to b len c =
      record {
        places = take len b.places ++ replicate (c - len) None;
        growth = b.growth;
        grown = with_growth b.grown len (length b.places) c;
        written = b.written;
        runs = b.runs;
        alloc = b.alloc;
      }

  -- the block `b` after a shrink to `c` places, which keeps the first `len`
  abbrev pub shrunk_to : Block X A → ℕ → ℕ → Block X A
  shrunk_to b len c =
      record {
        places = take len b.places ++ replicate (c - len) None;
        growth = b.growth;
        grown = with_shrink b.grown (length b.places) c;
        written = b.written;
        runs = b.runs;
        alloc = b.alloc;
      }

  -- the block `b` after `shrink_to_fit` to `c` places of `size` bytes. Zero-sized elements keep all
  -- their places
  abbrev pub cut_to : (size : ℕ) → Block X A → (len c : ℕ) → Block X A
  cut_to size b len c =
      if size == 0 then b else (if c == length b.places then b else shrunk_to b len c)

module _ {X A : Type 0} where
  -- the capacity that an amortized growth of `b` to at least `n` places of `size` bytes requests
  abbrev pub growth_capacity : (size : ℕ) → Block X A → (n : ℕ) → ℕ
  growth_capacity size b n = amortized b.growth (length b.places) n (min_capacity size)

  -- the capacity that a reserve of this kind requests
  abbrev pub reserve_capacity : ReserveKind → (size : ℕ) → Block X A → (n : ℕ) → ℕ
  reserve_capacity Amortized size b n = growth_capacity size b n
  reserve_capacity Exact size b n = n

  -- `old` reserved capacity for `k` more than its first `n` places and became `new`: if they fit it
  -- is unchanged, and else it grew to `requested` places of `size` bytes. The fields after these
  -- two say what of that a caller needs
  pub record Reserves (size : ℕ) (old : Block X A) (n k requested : ℕ)
      (new : Block X A) : Type 0 where
    pub fits : n + k ≤ length old.places → new ≡ old
    pub grows : length old.places < n + k → (0 < size) × (new ≡ grown_to old n requested)
    pub room : n + k ≤ length new.places
    pub within : length new.places ≤ usize_max
    pub capacity : length new.places
        ≡ (if nat_le (n + k) (length old.places) then length old.places else requested)
    pub kept : take n new.places ≡ take n old.places
    pub growth : new.growth ≡ old.growth
    pub grown : new.grown
        ≡ (if nat_le (n + k) (length old.places) then old.grown
        else with_growth old.grown n (length old.places) requested)
    pub written : new.written ≡ old.written
    pub runs : new.runs ≡ old.runs
    pub alloc : new.alloc ≡ old.alloc

  -- a reserve of `k` more than the first `n` places of `old` returned `result` and left `new`: it
  -- succeeds if they fit, and an error changes nothing
  pub record ReserveResult (size : ℕ) (old : Block X A) (n k requested : ℕ)
      (result : Result Unit TryReserveError) (new : Block X A) : Type 0 where
    pub fits : k ≤ length old.places - n → IsOk result
    pub made : OnOk result (Reserves size old n k requested new)
    pub failed : IfErr result (λ e. (new ≡ old) × LacksRoom size (length old.places) n k requested e)
