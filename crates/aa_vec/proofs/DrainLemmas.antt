-- Steps of a drain.
use Rattle.aa_vec.proofs.Common.{Closes, ClosesTwoGaps, Drain, DrainKeeps, DropsAndCloses, HasTail, IsRun, IsRun-part, IsRun-set-above, KeepsRest, List, MutBor, None, Option, SetsTail, TakesRange, Vector, Yields, YieldsInOrder, YieldsInReverse, [], ap, arith, drain_tail, drains_first, drains_last, drop, drop-drop, drop-set-add, drop-set-lt, len, length, length-append, length-drop, length-run, length-set, re_v, refl, rules, run, run-none, run-set-above, run-split, slice_set, subst, sym, tail_items, ℕ, ◌++◌, ◌+◌, ◌-◌, ◌<◌, ◌∙◌, ◌∷◌, ◌≡◌, ◌≤◌}
use Rattle.aa_vec.specs.Drain.{drain_remaining}
use Rattle.std.proofs.iter.runs.Sources.{from_front, from_back, as_is, as_is_back}
use Rattle.aa_vec.proofs.Gaps.{run-of_drop, IsRun-to_drop}
use Rattle.aa_vec.proofs.Becoming.{Becomes-refl, Becomes-then}
use Rattle.aa_vec.proofs.TailLemmas.{part_tail, later_part}
use Rattle.aa_vec.proofs.Tails.{first_are}

module _ {T A : Type 0} where
  -- nothing is changed where the drain is
  pub keeps-same : (d : Drain T A) → DrainKeeps d d
  keeps-same d = record {
    lender = refl;
    becomes = Becomes-refl d.vec.now;
    tail = refl;
    range = refl;
  }

  pub keeps-then : (d e f : Drain T A) → DrainKeeps d e → DrainKeeps e f → DrainKeeps d f
  keeps-then d e f h k = grind (arith, Becomes-then)

  pub keeps-along : (d : Drain T A) (xs : List T) (later : Drain T A)
      → Yields drains_first d xs later → DrainKeeps d later
  keeps-along d [] later y = subst (DrainKeeps d) y (keeps-same d)
  keeps-along d (x ∷ xs) later y = keeps-then d y.0 later y.1.0 (keeps-along y.0 xs later y.2)

  -- what calls of `next` return, and calls of `next_back`
  pub runs-in_order : YieldsInOrder (drains_first {T = T} {A = A}) drain_remaining
  runs-in_order p s =
      as_is p (drain_remaining p.from)
      (from_front (drains_first {T = T} {A = A}) (λ x. x) drain_remaining (λ d e h. ap length h.1.0)
      (λ d x e h. h.1.0) p s)

  pub runs-in_reverse : YieldsInReverse (drains_last {T = T} {A = A}) drain_remaining
  runs-in_reverse p s =
      as_is_back p (drain_remaining p.from)
      (from_back (drains_last {T = T} {A = A}) (λ x. x) drain_remaining (λ d e h. ap length h.1.0)
      (λ d x e h. h.1.0) p s)

  -- what remains, and what is after the range, as places of the vector's block
  pub rest_is : (d : Drain T A) → drain_remaining d
      ≡ tail_items d.vec.now d.front (d.back - d.front)
  unfolding drain_remaining run
  rest_is d = refl

  pub tail_is : (d : Drain T A) → drain_tail d ≡ tail_items d.vec.now d.end (d.total - d.end)
  unfolding run
  tail_is d = refl

  -- how many they are
  pub remaining_count : (d : Drain T A) → length (drain_remaining d) ≡ d.back - d.front
  unfolding drain_remaining run
  remaining_count d = length-run (drop d.front d.vec.now.spare) 0 (d.back - d.front) d.held.0.1

  pub count_behind : (d : Drain T A) → length (drain_tail d) ≡ d.total - d.end
  unfolding run
  count_behind d = length-run (drop d.end d.vec.now.spare) 0 (d.total - d.end) d.held.1.1

  -- the items from the first of the two ends on, which `bounds_of` returned, are in the tail now,
  -- of which those up to the second are a range
  module _ {old new : Vector T A} {p : ℕ × ℕ} {s e : ℕ} {Known : Type 0} (total : ℕ)
      (same : p ≡ (s, e)) (known : (s ≤ e) × (e ≤ len old) × Known) (count : p.0 + total ≡ len old)
      (sets : SetsTail old p.0 new) where
    range : (p.0 ≤ p.1) × (p.1 ≤ len old)
    range = subst (λ p. (p.0 ≤ p.1) × (p.1 ≤ len old)) (sym same) (known.0, known.1)

    all : HasTail new 0 total
    all = let P : ℕ → Type 0 = λ k. HasTail new 0 k in subst P (omega (arith, count)) sets.has_tail

    pub range_held : HasTail new 0 (p.1 - p.0 - 0) × HasTail new (p.1 - p.0) (total - (p.1 - p.0))
    range_held = (
      part_tail new 0 total all 0 (p.1 - p.0 - 0) (omega arith)
          (omega (arith, count, range)),
      part_tail new 0 total all (p.1 - p.0) (total - (p.1 - p.0))
          (omega arith) (omega (arith, count, range)),
    )

    pub range_drains : (lent : MutBor (Vector T A))
        (ordered : (0 ≤ p.1 - p.0) × (p.1 - p.0 ≤ p.1 - p.0) × (p.1 - p.0 ≤ total))
        (held : HasTail new 0 (p.1 - p.0 - 0) × HasTail new (p.1 - p.0) (total - (p.1 - p.0)))
        → TakesRange old s e
        (record {
          vec = re_v new lent;
          front = 0;
          back = p.1 - p.0;
          end = p.1 - p.0;
          total = total;
          ordered = ordered;
          held = held;
        })
    unfolding drain_remaining run
    range_drains lent ordered held =
        rw (← ap (λ p. p.0) same, ← ap (λ p. p.1) same)
        (search (
          rules,
          sets,
          first_are new 0 total all (p.1 - p.0)
              (omega (arith, count, range)),
          later_part new 0 (p.1 - p.0) total (total - (p.1 - p.0))
              (omega (arith, count, range)) all,
          drop-drop (p.1 - p.0) p.0 old.items,
        ))

-- the first of the places that are left
module _ {X : Type 0} (bs : List (Option X)) (f b : ℕ) (some : f < b)
    (r : IsRun (drop f bs) 0 (b - f)) where
  pub run-next : run (drop f bs) 0 (b - f) ≡ run (drop f bs) 0 1
      ++ run (drop (f + 1) bs) 0 (b - (f + 1))
  run-next = grind (
    arith,
    run-split (drop f bs) 0 1 1 (b - (f + 1)) (b - f) (omega arith) (omega (arith, some)),
    run-of_drop (drop f bs) 1 (b - (f + 1)),
    drop-drop 1 f bs,
  )

  pub IsRun-next : IsRun (drop (f + 1) bs) 0 (b - (f + 1))
  IsRun-next = subst (λ ds. IsRun ds 0 (b - (f + 1))) (drop-drop 1 f bs)
      (IsRun-to_drop (drop f bs) 1 (b - (f + 1))
      (IsRun-part (drop f bs) 0 (b - f) 1 (b - (f + 1)) (omega arith) (omega (arith, some)) r))

  -- and the last
  abbrev few : ℕ
  few = b - 1 - f

  pub run-last : run (drop f bs) 0 (b - f) ≡ run (drop f bs) 0 (b - 1 - f)
      ++ run (drop (b - 1) bs) 0 1
  run-last = grind (
    arith,
    run-split (drop f bs) 0 few few 1 (b - f) (omega arith) (omega (arith, some)),
    run-of_drop (drop f bs) few 1,
    drop-drop few f bs,
  )

  pub IsRun-end : IsRun (drop (b - 1) bs) 0 1
  IsRun-end =
      let there : drop few (drop f bs) ≡ drop (b - 1) bs = grind (arith, drop-drop few f bs) in
      subst (λ ds. IsRun ds 0 1) there
      (IsRun-to_drop (drop f bs) few 1
      (IsRun-part (drop f bs) 0 (b - f) few 1 (omega arith) (omega (arith, some)) r))

  set-there : drop f (slice_set bs (b - 1) None) ≡ slice_set (drop f bs) few None
  set-there = ap (λ i. drop f (slice_set bs i None)) (omega (arith, some))
      ∙ drop-set-add f bs few None

  pub run-before : run (drop f (slice_set bs (b - 1) None)) 0 (b - 1 - f)
      ≡ run (drop f bs) 0 (b - 1 - f)
  run-before = ap (λ ds. run ds 0 few) set-there
      ∙ run-set-above (drop f bs) 0 few few None (omega (arith, r.0, some)) (omega arith)

  pub IsRun-before : IsRun (drop f (slice_set bs (b - 1) None)) 0 (b - 1 - f)
  IsRun-before = subst (λ ds. IsRun ds 0 few) (sym set-there)
      (IsRun-set-above (drop f bs) 0 few few None (omega (arith, r.0, some)) (omega arith)
      (IsRun-part (drop f bs) 0 (b - f) 0 few (omega arith) (omega (arith, some)) r))

-- an item taken from either end
pub ruleset from_ends = (
  rest_is,
  tail_is,
  run-next,
  IsRun-next,
  run-last,
  IsRun-end,
  run-before,
  IsRun-before,
  drop-set-lt,
  run-none,
  length-set,
  length-drop,
  length-append,
)

-- what `drop_and_close` says, and what `drop` says
pub closes : {X Y : Type 0} (d : Drain X Y) (w : Vector X Y)
    → DropsAndCloses d.vec.now (d.back - d.front) d.end (d.total - d.end) w → Closes d w
unfolding run
closes d w h = rw (count_behind d) h.becomes

-- what `close_gaps` says, and what `keep_rest` says
pub keeps : {X Y : Type 0} (d : Drain X Y) (w : Vector X Y)
    → ClosesTwoGaps d.vec.now d.front (d.back - d.front) d.end (d.total - d.end) w → KeepsRest d w
unfolding drain_remaining run
keeps d w h = let taken : d.end - (d.back - d.front)
    ≡ d.front + (d.end - d.back) = omega (arith, d.ordered) in
    rw (remaining_count d, count_behind d, ← taken) h

-- what follows calls of a range that was taken
pub ruleset ranges = (keeps-along, runs-in_order, runs-in_reverse)
