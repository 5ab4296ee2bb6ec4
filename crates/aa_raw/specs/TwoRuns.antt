-- Growth that keeps two runs of a block. A run is a pair of its first place and its length.
use Rattle.std.specs.Prelude.{◌≡◌, ℕ, ◌+◌, ◌<◌, ◌≤◌, ◌-◌, ◌⊎◌, ◌++◌, take, drop, replicate, None, length, if◌then◌else◌, nat_le, Result, IfErr, OnOk, IsOk}
use Rattle.aa_raw.specs.Block.{Block, growth_capacity, with_growth}
use Rattle.aa_raw.specs.Growth.{usize_max}
use Rattle.aa_raw.specs.Places.{IsRun, run, with_run}
use Rattle.aa_raw.specs.Room.{LacksRoom}
use Rattle.aa_raw.specs.declared.collections.TryReserveError.{TryReserveError}

-- no place is in both runs `first` and `second`
abbrev pub AreApart : (first second : ℕ × ℕ) → Type 0
AreApart first second = (first.0 + first.1 ≤ second.0) ⊎ (second.0 + second.1 ≤ first.0)

-- the number of values in the runs `first` and `second`
abbrev pub both : (first second : ℕ × ℕ) → ℕ
both first second = first.1 + second.1

module _ {X A : Type 0} where
  -- the block `b` after a growth to `c` places, with its first run at the beginning and its second
  -- from the place `to` on
  abbrev pub grown_with : Block X A → (first second : ℕ × ℕ) → (to c : ℕ) → Block X A
  grown_with b first second to c =
      record {
        places = with_run
            (with_run (replicate c None) 0 first.1 (take first.1 (drop first.0 b.places)))
            to second.1 (take second.1 (drop second.0 b.places));
        growth = b.growth;
        grown = with_growth b.grown (both first second) (length b.places) c;
        written = b.written;
        runs = b.runs;
        alloc = b.alloc;
      }

  -- `old` reserved capacity for `k` more values than its two runs have and became `new`: if they
  -- fit it is unchanged, and else it grew to `requested` places of `size` bytes, of which the
  -- second run begins at the place `to`
  pub record ReservesRuns (size : ℕ) (old : Block X A) (first second : ℕ × ℕ) (k requested to : ℕ)
      (new : Block X A) : Type 0 where
    pub fits : both first second + k ≤ length old.places → new ≡ old
    pub grows : length old.places < both first second + k
        → (0 < size) × (new ≡ grown_with old first second to requested)
    pub room : both first second + k ≤ length new.places
    pub within : length new.places ≤ usize_max
    pub capacity : length new.places
        ≡ (if nat_le (both first second + k) (length old.places)
        then length old.places else requested)
    pub growth : new.growth ≡ old.growth
    pub grown : new.grown
        ≡ (if nat_le (both first second + k) (length old.places) then old.grown
        else with_growth old.grown (both first second) (length old.places) requested)
    pub written : new.written ≡ old.written
    pub runs : new.runs ≡ old.runs
    pub alloc : new.alloc ≡ old.alloc

  -- an amortized reserve of `k` more values than the two runs of `old` have returned `result` and
  -- left `new`: it succeeds if they fit, and an error changes nothing
  pub record ReserveRunsResult (size : ℕ) (old : Block X A) (first second : ℕ × ℕ) (k to : ℕ)
      (result : Result Unit TryReserveError) (new : Block X A) : Type 0 where
    pub fits : k ≤ length old.places - both first second → IsOk result
    pub made : let c = growth_capacity size old (both first second + k) in
        OnOk result (ReservesRuns size old first second k c to new)
    pub failed : let c = growth_capacity size old (both first second + k) in
        IfErr result (λ e. (new ≡ old) × LacksRoom size (length old.places) (both first second) k c e)

  -- `old` has no capacity for `k` more values than its two runs have
  abbrev pub IsFull : (old : Block X A) → (first second : ℕ × ℕ) → (k : ℕ) → Type 0
  IsFull old first second k = length old.places < both first second + k

  -- `new` begins with the values of the first run of `old`, followed by those of the second
  pub record AreJoined (old new : Block X A) (first second : ℕ × ℕ) : Type 0 where
    pub there : IsRun new.places 0 (both first second)
    pub same : run new.places 0 (both first second)
        ≡ run old.places first.0 first.1 ++ run old.places second.0 second.1

  -- `new` begins with the values of the first run of `old` and ends with those of the second
  pub record AreParted (old new : Block X A) (first second : ℕ × ℕ) : Type 0 where
    pub before : IsRun new.places 0 first.1
    pub front : run new.places 0 first.1 ≡ run old.places first.0 first.1
    pub after : IsRun new.places (length new.places - second.1) second.1
    pub back : run new.places (length new.places - second.1) second.1
        ≡ run old.places second.0 second.1
