-- Places in two parts with a gap between them, and how the calls of the block change them.
use Rattle.std.proofs.lemmas.Grind.{get_or-set_at}
use Rattle.aa_raw.proofs.Beyond.{none-at, none-each}
use Rattle.aa_raw.specs.Places.{AreEmpty, moved, with_run}
use Rattle.aa_raw.specs.TwoRuns.{ReservesRuns}
use Rattle.aa_gap.proofs.Common.{AreApart-before, AreFree, AreParted, Block, HasGap, IsRun, IsRun-first, IsRun-joined, IsRun-last, IsRun-long, IsRun-moved-above, IsRun-of_none, IsRun-part, IsRun-set-above, IsRun-set-below, IsRun-shifted_down, IsRun-shifted_up, IsRun-shifted_up-below, IsRun-take_first, IsRun-with-above, List, None, Option, [], ap, arith, cases_lt, drop, get_or, get_or_past, inl, inr, length, length-drop, length-moved, length-replicate, length-run, length-set, length-with_run, lengths, nat_tests, refl, replicate, rules, run, run-drop, run-moved-above, run-of_none, run-set-above, run-set-below, run-shifted_down, run-shifted_up, run-shifted_up-below, run-split, run-take, run-take_first, slice_set, subst, suc, sym, take, zero, ℕ, ◌++◌, ◌+◌, ◌-◌, ◌<◌, ◌∙◌, ◌∷◌, ◌≡◌, ◌≢◌, ◌≤◌}
use Rattle.std.proofs.lemmas.List.{places}

-- Places that are empty, and what the calls of a block leave of them.
module _ {X : Type 0} where
  set_none : (cs : List (Option X)) (at i : ℕ) → i ≡ at → get_or (slice_set cs at None) i None
      ≡ None
  set_none cs at i is =
      grind (arith, get_or-set_at, get_or_past, length-set, cases_lt i (length cs))

  -- a value is put into the first of them, or taken from the place before them or from the one
  -- after
  pub free-put : (cs : List (Option X)) (start end : ℕ) (c : Option X) → AreFree cs start end
      → AreFree (slice_set cs start c) (start + 1) end
  free-put cs start end c f = record { none = λ i low high. grind (arith, places, f.none i) }

  pub free-take_last : (cs : List (Option X)) (start end : ℕ) → AreFree cs start end
      → AreFree (slice_set cs (start - 1) None) (start - 1) end
  free-take_last cs start end f =
      record { none = λ i low high. grind (arith, places, f.none i, set_none) }

  pub free-take_first : (cs : List (Option X)) (start end : ℕ) → AreFree cs start end
      → AreFree (slice_set cs end None) start (end + 1)
  free-take_first cs start end f =
      record { none = λ i low high. grind (arith, places, f.none i, set_none) }

  -- the values before them are written anew
  pub free-rewritten : (cs : List (Option X)) (start end : ℕ) (ys : List (Option X))
      → start ≤ length cs → length ys ≡ start → AreFree cs start end
      → AreFree (with_run cs 0 start ys) start end
  unfolding with_run
  free-rewritten cs start end ys within long f =
      record { none = λ i low high. grind (arith, places, f.none i) }

  -- all places of an empty block
  pub free-all : (cs : List (Option X)) (end : ℕ) → AreEmpty cs → AreFree cs 0 end
  free-all cs end e = record { none = λ i low high. none-at cs i e }

  -- the values of both parts are dropped
  pub none-dropped : (cs : List (Option X)) (start end : ℕ) → HasGap cs start end
      → AreEmpty (with_run (with_run cs 0 start (replicate start None)) end (length cs - end)
      (replicate (length cs - end) None))
  unfolding with_run
  none-dropped cs start end h =
      let ds = with_run (with_run cs 0 start (replicate start None)) end (length cs - end)
      (replicate (length cs - end) None) in
      none-each ds (λ i t. grind (arith, places, h.free.none i, h.before.0, h.after.0))

  pub free-cleared : (cs : List (Option X)) (start end : ℕ) → HasGap cs start end
      → AreFree (with_run (with_run cs 0 start (replicate start None)) end (length cs - end)
      (replicate (length cs - end) None)) 0 (length cs)
  free-cleared cs start end h = free-all _ (length cs) (none-dropped cs start end h)

  -- values are moved across them
  pub free-back : (cs : List (Option X)) (start end by : ℕ) → by ≤ start → start ≤ end
      → end ≤ length cs → AreFree cs start end
      → AreFree (moved cs (start - by) (end - by) by) (start - by) (end - by)
  unfolding with_run moved
  free-back cs start end by few b within f =
      record { none = λ i low high. grind (arith, places, f.none i) }

  pub free-forward : (cs : List (Option X)) (start end by : ℕ) → start ≤ end → end + by ≤ length cs
      → AreFree cs start end → AreFree (moved cs end start by) (start + by) (end + by)
  unfolding with_run moved
  free-forward cs start end by b within f =
      record { none = λ i low high. grind (arith, places, f.none i) }

-- what is empty beside a value that is put or taken
pub ruleset beside = (free-put, free-take_last, free-take_first, free-rewritten, free-all)

-- and once all are dropped
pub ruleset dropped = (none-dropped)

-- Values are moved across the gap.
module _ {X : Type 0} (cs : List (Option X)) (start end by : ℕ) (h : HasGap cs start end) where
  abbrev n : ℕ
  n = length cs - end

  -- the last before it, to after it
  module _ (enough : by ≤ start) where
    abbrev back : List (Option X)
    back = moved cs (start - by) (end - by) by

    pub length_back : length back ≡ length cs
    length_back = let b = h.between in let f = h.after.0 in
        length-moved cs (start - by) (end - by) by (omega arith) (omega arith)

    pub before_back : run back 0 (start - by) ≡ take (start - by) (run cs 0 start)
    before_back = let b = h.between in let f = h.after.0 in
        run-shifted_up-below cs start (end - by) by enough (omega arith) (omega arith) h.before

    pub after_back : run back (end - by) (length back - (end - by))
        ≡ drop (start - by) (run cs 0 start) ++ run cs end n
    after_back =
        let b = h.between in let f = h.after.0 in
        let there = run-moved-above cs (start - by) (end - by) by end n (omega arith) (omega arith)
        (omega arith) (omega arith) in
        run-split back (end - by) end by n (length back - (end - by)) (omega arith)
        (omega (arith, length_back))
        ∙ (λ i. run-shifted_up cs start (end - by) by enough (omega arith) h.before i
        ++ there i)

    pub HasGap_back : HasGap back (start - by) (end - by)
    HasGap_back =
        let b = h.between in let f = h.after.0 in
        let before = IsRun-shifted_up-below cs start (end - by) by enough (omega arith)
        (omega arith) h.before in
        let after = IsRun-joined back (end - by) end by n (length back - (end - by)) (omega arith)
        (omega (arith, length_back))
        (IsRun-shifted_up cs start (end - by) by enough (omega arith) h.before)
        (IsRun-moved-above cs (start - by) (end - by) by end n (omega arith) (omega arith)
        (omega arith) (omega arith) h.after) in
        let free = free-back cs start end by enough b (omega arith) h.free in search rules

  -- and the first after it, to before it
  module _ (enough : by ≤ n) where
    abbrev forward : List (Option X)
    forward = moved cs end start by

    pub length_forward : length forward ≡ length cs
    length_forward = let b = h.between in let f = h.after.0 in
        length-moved cs end start by (omega arith) (omega arith)

    part : IsRun cs end by
    part = IsRun-part cs end n end by (omega arith) (omega arith) h.after

    pub before_forward : run forward 0 (start + by) ≡ run cs 0 start ++ take by (run cs end n)
    before_forward = run-shifted_down cs start end by h.between h.before part
        ∙ ap (λ ys. run cs 0 start ++ ys) (sym (run-take cs end by n enough h.after))

    pub after_forward : run forward (end + by) (length forward - (end + by))
        ≡ drop by (run cs end n)
    after_forward =
        let b = h.between in let f = h.after.0 in
        let rest : length forward - (end + by) ≡ n - by = omega (arith, length_forward) in
        ap (run forward (end + by)) rest ∙ run-moved-above cs end start by (end + by) (n - by)
        (omega arith) (omega arith) (omega arith) (omega arith)
        ∙ sym (run-drop cs end (end + by) by n (n - by) refl (omega arith) h.after)

    pub HasGap_forward : HasGap forward (start + by) (end + by)
    HasGap_forward =
        let b = h.between in let f = h.after.0 in
        let before = IsRun-shifted_down cs start end by h.between h.before part in
        let after = IsRun-long forward (end + by) (length forward - (end + by))
        (omega (
          arith,
          ap length after_forward,
          length-drop by (run cs end n),
          length-run cs end n h.after,
          length_forward,
        )) (omega (arith, length_forward)) in
        let free = free-forward cs start end by b (omega arith) h.free in search rules

pub ruleset across = (
  length_back,
  HasGap_back,
  before_back,
  after_back,
  length_forward,
  HasGap_forward,
  before_forward,
  after_forward,
  length-run,
  nat_tests,
  IsRun-last,
  IsRun-first,
)

-- The places of a block, from which values are removed.
module _ {X : Type 0} where
  -- the values up to the end, counted from there
  pub run-to_end : (cs : List (Option X)) (i : ℕ) → i ≤ length cs
      → run cs (length cs - (length cs - i)) (length cs - i) ≡ run cs i (length cs - i)
  run-to_end cs i h = let e : length cs - (length cs - i) ≡ i = omega arith in
      ap (λ k. run cs k (length cs - i)) e

  pub IsRun-to_end : (cs : List (Option X)) (i : ℕ) → IsRun cs i (length cs - i)
      → IsRun cs (length cs - (length cs - i)) (length cs - i)
  IsRun-to_end cs i r = let e : i ≡ length cs - (length cs - i) = omega (arith, r.0) in
      subst (λ k. IsRun cs k (length cs - i)) e r

-- the first of the places up to the end is removed
pub ruleset first_after = (
  run-take_first,
  IsRun-take_first,
  run-set-below,
  IsRun-set-below,
  run-set-above,
  IsRun-set-above,
  length-run,
  length-set,
  run-of_none,
  IsRun-first,
  free-take_first,
)

-- all are removed
pub ruleset emptied = (
  nat_tests,
  lengths,
  length-replicate,
  run-of_none,
  IsRun-of_none,
  IsRun-with-above,
  free-cleared,
)

-- the parts of a block that is returned
pub ruleset apart = (nat_tests, run-to_end, IsRun-to_end)

-- What growth leaves of the places: the elements before the cursor at the beginning, and those
-- after it at the end.
pub free-parted : {X A : Type 0} (size : ℕ) (old new : Block X A) (start end after k c : ℕ)
    → ReservesRuns size old (0, start) (end, after) k c (c - after) new → length old.places
    < start + after + k → IsRun old.places 0 start → IsRun old.places end after
    → AreFree new.places start (length new.places - after)
unfolding with_run
free-parted size old new start end after k c made full before ends =
    let is = ap (λ b. b.places) (made.grows full).1 in let low = before.0 in let high = ends.0 in
    rw is (record { none = λ i l h. grind (arith, places) })

module _ {X A : Type 0} (old new : Block X A) (start end after : ℕ)
    (p : AreParted old new (0, start) (end, after)) (fit : start + after ≤ length new.places)
    (free : AreFree new.places start (length new.places - after)) where
  counted_back : length new.places - (length new.places - after) ≡ after
  counted_back = omega (arith, fit)

  pub HasGap-parted : HasGap new.places start (length new.places - after)
  HasGap-parted =
      let first = p.before in
      let last = subst (λ n. IsRun new.places (length new.places - after) n)
      (sym counted_back) p.after in
      let between : start ≤ length new.places - after = omega (arith, fit) in search rules

  pub before-parted : run new.places 0 start ≡ run old.places 0 start
  before-parted = p.front

  pub after-parted : run new.places (length new.places - after)
      (length new.places - (length new.places - after)) ≡ run old.places end after
  after-parted = ap (run new.places (length new.places - after)) counted_back ∙ p.back

pub ruleset at_both_ends = (
  nat_tests,
  length-run,
  AreApart-before,
  HasGap-parted,
  free-parted,
  before-parted,
  after-parted,
)
