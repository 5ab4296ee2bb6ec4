-- The result of growth that keeps two runs.
use Rattle.aa_raw.proofs.Common.{AreApart, AreJoined, AreParted, Block, IsFull, IsRun, List, None, Option, ReservesRuns, Some, ap, arith, both, drop, grown_to, grown_with, inl, inr, length, length-map, length-replicate, length_refill, map, nat_tests, refl, replicate, rules, run, subst, sym, take, usize_max, with_run, ℕ, ◌++◌, ◌+◌, ◌-◌, ◌<◌, ◌∙◌, ◌≡◌, ◌≤◌}
use Rattle.aa_raw.proofs.Calls.{IsRun-transferred_there, IsRun-with-below, run-transferred_there}
use Rattle.aa_raw.proofs.Places.{length-with_run, lengths, moved_over, with_none}
use Rattle.aa_raw.proofs.Runs.{IsRun-joined, IsRun-same, cut-long, run-filled, run-split, run-with-above, run-with-below}

pub AreApart-before : (a m b n : ℕ) → a + m ≤ b → AreApart (a, m) (b, n)
AreApart-before a m b n h = inl h

pub AreApart-after : (a m b n : ℕ) → b + n ≤ a → AreApart (a, m) (b, n)
AreApart-after a m b n h = inr h

-- the first run is before the second in the block, or after it
pub ruleset apart = (AreApart-before, AreApart-after)

module _ {X : Type 0} (cs : List (Option X)) (first second : ℕ × ℕ) (r : IsRun cs first.0 first.1)
    (s : IsRun cs second.0 second.1) where
  module _ (apart : AreApart first second) where
    pub both-fit : both first second ≤ length cs
    both-fit = grind (arith, apart, r.0, s.0)

    abbrev none : List (Option X)
    none = replicate first.1 None

    -- the places without the values of the first run: those of the second are there
    abbrev left : List (Option X)
    left = with_run cs first.0 first.1 none

    run-left : run left second.0 second.1 ≡ run cs second.0 second.1
    run-left = grind (arith, apart, r.0, run-with-above, run-with-below, length-replicate)

    pub length-left : length left ≡ length cs
    length-left = length-with_run cs first.0 first.1 none r.0
        (length-replicate {A = Option X} first.1 None)

    pub IsRun-left : IsRun left second.0 second.1
    IsRun-left = IsRun-same cs left second.0 second.1 length-left run-left s

    pub cut-left : take second.1 (drop second.0 left) ≡ take second.1 (drop second.0 cs)
    cut-left = run-filled left second.0 second.1 IsRun-left ∙ ap (map Some) run-left
        ∙ sym (run-filled cs second.0 second.1 s)

  module _ (c to : ℕ) (low : first.1 ≤ to) (high : to + second.1 ≤ c) where
    abbrev empty : List (Option X)
    empty = replicate c None

    abbrev one : List (Option X)
    one = with_run empty 0 first.1 (take first.1 (drop first.0 cs))

    abbrev two : List (Option X)
    two = with_run one to second.1 (take second.1 (drop second.0 cs))

    pub length-two : length two ≡ c
    length-two = grind (arith, length-with_run, length-replicate, cut-long, r.0, s.0)

    -- both are there
    two-kept : IsRun two 0 first.1 × (run two 0 first.1 ≡ run cs first.0 first.1)
        × IsRun two to second.1 × (run two to second.1 ≡ run cs second.0 second.1)
    two-kept =
        let ys = take second.1 (drop second.0 cs) in
        let fits : to + second.1
        ≤ length one = grind (arith, length-with_run, length-replicate, cut-long, r.0) in
        let start : 0 + first.1
        ≤ length empty = omega (arith, length-replicate {A = Option X} c None) in (
          IsRun-with-below one to second.1 ys 0 first.1 fits (cut-long cs second.0 second.1 s.0)
              (omega arith) (IsRun-transferred_there empty cs 0 first.0 first.1 start r),
          grind (arith, fits, start, run-with-below, run-transferred_there),
          IsRun-transferred_there one cs to second.0 second.1 fits s,
          run-transferred_there one cs to second.0 second.1 fits s,
        )

module _ {X A : Type 0} (size : ℕ) (old : Block X A) (first second : ℕ × ℕ)
    (k requested to : ℕ) where
  -- if they fit, the block is unchanged
  pub ReservesRuns-unchanged : both first second + k ≤ length old.places → length old.places
      ≤ usize_max → ReservesRuns size old first second k requested to old
  ReservesRuns-unchanged fits within = search (rules, nat_tests)

  -- where they don't, it has grown
  pub ReservesRuns-grows : IsFull old first second k → IsRun old.places first.0 first.1
      → IsRun old.places second.0 second.1 → first.1 ≤ to → to + second.1 ≤ requested
      → both first second + k ≤ requested → requested ≤ usize_max → 0 < size
      → ReservesRuns size old first second k requested to
      (grown_with old first second to requested)
  ReservesRuns-grows full r s low high enough few has_size =
      grind (arith, nat_tests, length-two old.places first second r s requested to low high)

-- the first run is at the beginning, and the second has no values
pub grown_alone : {X A : Type 0} (b : Block X A) (first second : ℕ × ℕ) (to c : ℕ) → first.0 ≡ 0
    → second.1 ≡ 0
    → grown_with b first second to c ≡ grown_to b first.1 c
grown_alone b first second to c at none = rw (at, none) (grind (arith, with_none, moved_over))

module _ {X A : Type 0} (size : ℕ) (old : Block X A) (first second : ℕ × ℕ) (k requested : ℕ)
    (new : Block X A) (full : IsFull old first second k) (r : IsRun old.places first.0 first.1)
    (s : IsRun old.places second.0 second.1) where
  enough : (to : ℕ) → ReservesRuns size old first second k requested to new → both first second
      ≤ requested
  enough to made = let room = made.room in let capacity = made.capacity in grind (arith, nat_tests)

  -- the values of both, the second from `to` on
  kept : (to : ℕ) → ReservesRuns size old first second k requested to new → first.1 ≤ to
      → to + second.1 ≤ requested
      → IsRun new.places 0 first.1 × (run new.places 0 first.1 ≡ run old.places first.0 first.1)
      × IsRun new.places to second.1
      × (run new.places to second.1 ≡ run old.places second.0 second.1)
      × (length new.places ≡ requested)
  kept to made low high = let p = two-kept old.places first second r s requested to low high in
      rw ((made.grows full).1)
      (p.0, p.1, p.2, p.3, length-two old.places first second r s requested to low high)

  -- in line
  pub AreJoined-made : ReservesRuns size old first second k requested first.1 new
      → AreJoined old new first second
  AreJoined-made made = let m = first.1 in let n = second.1 in
      let p = kept m made (omega arith) (enough m made) in
      record {
        there = IsRun-joined _ 0 m m n (m + n) (omega arith) refl p.0 p.2;
        same = grind (arith, p.1, p.3, run-split new.places 0 m m n (m + n));
      }

  -- at both ends
  pub AreParted-made : ReservesRuns size old first second k requested (requested - second.1) new
      → AreParted old new first second
  AreParted-made made =
      let n = second.1 in let all : both first second ≤ requested = enough (requested - n) made in
      let p = kept (requested - n) made (omega arith) (omega arith) in
      let same : requested - n ≡ length new.places - n = omega (arith, p.4) in
      record { before = p.0; front = p.1; after = rw (← same) p.2; back = rw (← same) p.3 }

pub ruleset kept_runs = (
  grown_alone,
  lengths,
  nat_tests,
  length_refill,
  both-fit,
  length-left,
  IsRun-left,
  cut-left,
  ReservesRuns-unchanged,
  ReservesRuns-grows,
  AreJoined-made,
  AreParted-made,
)
