-- Lemmas on runs that begin anywhere, in the form that the search applies: values are put and taken
-- at both ends, and read. An author of a queue names one of these rulesets, and no more than are
-- wanted, since the search proves less with many:
--     at_both_ends     a run by its first place and its length
--     between     one by its first place and the first place after it
--     two_runs     a value of two lists in line, of which the first is a run
--     by_arithmetic     the same calls at any numbers that arithmetic finds equal
use Rattle.aa_raw.proofs.Common.{IsFilled, IsRun, List, None, Option, Some, [], ap, arith, drop, drop_at, get_or, length, length-set, nat_tests, refl, run, slice_get, slice_get_past, slice_get_read, slice_set, suc, sym, take, take_at, zero, ℕ, ◌++◌, ◌+◌, ◌-◌, ◌<◌, ◌∙◌, ◌∷◌, ◌≡◌, ◌≤◌}
use Rattle.aa_raw.proofs.Calls.{IsRun-take_back, IsRun-take_first, filled-back, run-take_back, run-take_first, slice_get-run}
use Rattle.aa_raw.proofs.Firsts.{run-at_from}
use Rattle.aa_raw.proofs.Places.{first_filled, run_filled}
use Rattle.aa_raw.proofs.Runs.{IsRun-long, IsRun-part, IsRun-pop, IsRun-push, IsRun-set-above, IsRun-set-below, IsRun-shift, first-filled, last-filled, length-run, run-pop, run-push, run-set-above, run-set-below, run-set-same, run-shift, run-split}

module _ {X : Type 0} where
  -- a value of the first of two lists in line, and of the second
  pub slice_get-front : (xs ys : List X) (i : ℕ) → i < length xs → slice_get (xs ++ ys) i
      ≡ slice_get xs i
  slice_get-front [] ys i h = absurd (omega (arith, h))
  slice_get-front (x ∷ xs) ys zero h = refl
  slice_get-front (x ∷ xs) ys (suc i) h = slice_get-front xs ys i (omega (arith, h))

  pub slice_get-after : (xs ys : List X) (i : ℕ) → length xs ≤ i → slice_get (xs ++ ys) i
      ≡ slice_get ys (i - length xs)
  slice_get-after [] ys i h = let z : i ≡ i - 0 = omega arith in ap (slice_get ys) z
  slice_get-after (x ∷ xs) ys zero h = absurd (omega (arith, h))
  slice_get-after (x ∷ xs) ys (suc i) h =
      let k : i - length xs ≡ suc i - length (x ∷ xs) = omega arith in
      slice_get-after xs ys i (omega (arith, h)) ∙ ap (slice_get ys) k

  -- two lists in line that are rotated by the length of the first
  pub rotated : (xs ys : List X) (n : ℕ) → length xs ≡ n → drop n (xs ++ ys) ++ take n (xs ++ ys)
      ≡ ys ++ xs
  rotated xs ys n e = let front = take_at xs ys n e in let back = drop_at xs ys n e in
      λ i. back i ++ front i

  -- a value put before a run
  pub run-unshift : (cs : List (Option X)) (from n : ℕ) (x : X) (i k : ℕ) → i + 1 ≡ from → n + 1 ≡ k
      → i < length cs → run (slice_set cs i (Some x)) i k ≡ x ∷ run cs from n
  run-unshift cs from n x i k e l room =
      grind (arith, run-split (slice_set cs i (Some x)) i from 1 n k e, run-set-same, run-set-below)

  pub IsRun-unshift : (cs : List (Option X)) (from n : ℕ) (x : X) (i k : ℕ) → i + 1 ≡ from → n + 1
      ≡ k → IsRun cs from n → IsRun (slice_set cs i (Some x)) i k
  IsRun-unshift cs from n x i k e l r =
      IsRun-long (slice_set cs i (Some x)) i k
      (grind (arith, r.0, run-unshift cs from n x i k e l, length-run cs from n r))
      (omega (arith, r.0, length-set cs i (Some x)))

  pub ruleset by_arithmetic = (
    run-push,
    IsRun-push,
    run-pop,
    IsRun-pop,
    run-shift,
    IsRun-shift,
    run-unshift,
    IsRun-unshift,
    run-split,
    IsRun-part,
  )

  -- a value written after the n from a place on, and before them
  pub run-put_after : (cs : List (Option X)) (from n : ℕ) (x : X) → from + n < length cs
      → run (slice_set cs (from + n) (Some x)) from (n + 1) ≡ run cs from n ++ x ∷ []
  run-put_after cs from n x room = run-push cs from n x (from + n) (n + 1) refl refl room

  pub IsRun-put_after : (cs : List (Option X)) (from n : ℕ) (x : X) → from + n < length cs
      → IsRun cs from n → IsRun (slice_set cs (from + n) (Some x)) from (n + 1)
  IsRun-put_after cs from n x room r = IsRun-push cs from n x (from + n) (n + 1) refl refl room r

  pub run-put_before : (cs : List (Option X)) (from n : ℕ) (x : X) → 0 < from → from ≤ length cs
      → run (slice_set cs (from - 1) (Some x)) (from - 1) (n + 1) ≡ x ∷ run cs from n
  run-put_before cs from n x some within =
      run-unshift cs from n x (from - 1) (n + 1) (omega arith) refl (omega arith)

  pub IsRun-put_before : (cs : List (Option X)) (from n : ℕ) (x : X) → 0 < from → IsRun cs from n
      → IsRun (slice_set cs (from - 1) (Some x)) (from - 1) (n + 1)
  IsRun-put_before cs from n x some r = IsRun-unshift cs from n x (from - 1) (n + 1)
      (omega arith) refl r

  -- the first of them taken, and the last
  pub run-take_front : (cs : List (Option X)) (from n : ℕ) (x : X) → 0 < n → IsRun cs from n
      → get_or cs from None ≡ Some x → x ∷ run (slice_set cs from None) (from + 1) (n - 1)
      ≡ run cs from n
  run-take_front cs from n x some r e =
      sym (run-shift cs from (n - 1) x (from + 1) n refl (omega arith) r e)

  pub IsRun-take_front : (cs : List (Option X)) (from n : ℕ) → 0 < n → IsRun cs from n
      → IsRun (slice_set cs from None) (from + 1) (n - 1)
  IsRun-take_front cs from n some r = IsRun-shift cs from (n - 1) (from + 1) n refl (omega arith) r

  pub run-take_after : (cs : List (Option X)) (from n : ℕ) (x : X) → 0 < n → IsRun cs from n
      → get_or cs (from + n - 1) None ≡ Some x → run (slice_set cs (from + n - 1) None) from (n - 1)
      ++ x ∷ [] ≡ run cs from n
  run-take_after cs from n x some r e =
      sym (run-pop cs from (n - 1) x (from + n - 1) n (omega arith) (omega arith) r e)

  pub IsRun-take_after : (cs : List (Option X)) (from n : ℕ) → 0 < n → IsRun cs from n
      → IsRun (slice_set cs (from + n - 1) None) from (n - 1)
  IsRun-take_after cs from n some r = IsRun-pop cs from (n - 1) (from + n - 1) n (omega arith)
      (omega arith) r

  pub filled-after : (cs : List (Option X)) (from n : ℕ) → 0 < n → IsRun cs from n
      → IsFilled cs (from + n - 1)
  filled-after cs from n some r = last-filled cs from (n - 1) (from + n - 1) n (omega arith)
      (omega arith) r

  -- a value read among them
  pub slice_get-run_from : (cs : List (Option X)) (from n i : ℕ) (x : X) → IsRun cs from n → i < n
      → get_or cs (from + i) None ≡ Some x → slice_get (run cs from n) i ≡ Some x
  slice_get-run_from cs from n i x r h e =
      slice_get_read (run cs from n) n i x (sym (length-run cs from n r)) h
      (run-at_from cs from n i x r h e)

  pub ruleset at_both_ends = (
    nat_tests,
    run-put_after,
    IsRun-put_after,
    run-put_before,
    IsRun-put_before,
    run-take_front,
    IsRun-take_front,
    run-take_after,
    IsRun-take_after,
    first-filled,
    filled-after,
    run_filled,
    run-set-above,
    IsRun-set-above,
    run-set-below,
    IsRun-set-below,
    length-set,
    length-run,
  )

  -- the same of a run up to a place
  pub run-put_back : (cs : List (Option X)) (front back : ℕ) (x : X) → front ≤ back
      → back < length cs → run (slice_set cs back (Some x)) front (back + 1 - front)
      ≡ run cs front (back - front) ++ x ∷ []
  run-put_back cs front back x order room =
      run-push cs front (back - front) x back (back + 1 - front) (omega arith) (omega arith) room

  pub IsRun-put_back : (cs : List (Option X)) (front back : ℕ) (x : X) → front ≤ back
      → back < length cs → IsRun cs front (back - front)
      → IsRun (slice_set cs back (Some x)) front (back + 1 - front)
  IsRun-put_back cs front back x order room r =
      IsRun-push cs front (back - front) x back (back + 1 - front) (omega arith)
      (omega arith) room r

  pub run-put_front : (cs : List (Option X)) (front back : ℕ) (x : X) → 0 < front → front ≤ back
      → front ≤ length cs → run (slice_set cs (front - 1) (Some x)) (front - 1) (back - (front - 1))
      ≡ x ∷ run cs front (back - front)
  run-put_front cs front back x some order within =
      run-unshift cs front (back - front) x (front - 1) (back - (front - 1)) (omega arith)
      (omega arith) (omega arith)

  pub IsRun-put_front : (cs : List (Option X)) (front back : ℕ) (x : X) → 0 < front → front ≤ back
      → IsRun cs front (back - front) → IsRun (slice_set cs (front - 1) (Some x)) (front - 1)
      (back - (front - 1))
  IsRun-put_front cs front back x some order r = IsRun-unshift cs front (back - front) x (front - 1)
      (back - (front - 1)) (omega arith) (omega arith) r

  pub ruleset between = (
    nat_tests,
    run-put_back,
    IsRun-put_back,
    run-put_front,
    IsRun-put_front,
    run-take_first,
    IsRun-take_first,
    run-take_back,
    IsRun-take_back,
    first-filled,
    filled-back,
    run-set-above,
    IsRun-set-above,
    run-set-below,
    IsRun-set-below,
    length-set,
    length-run,
  )

  -- a value of a run with others after it, and of those
  pub slice_get-in_first : (cs : List (Option X)) (from n i : ℕ) (ys : List X) (x : X)
      → IsRun cs from n → i < n → get_or cs (from + i) None ≡ Some x
      → slice_get (run cs from n ++ ys) i ≡ Some x
  slice_get-in_first cs from n i ys x r h e =
      slice_get-front (run cs from n) ys i (omega (arith, h, length-run cs from n r))
      ∙ slice_get-run_from cs from n i x r h e

  pub slice_get-in_second : (cs : List (Option X)) (from n i m : ℕ) (x : X) → IsRun cs from n
      → IsRun cs 0 m → n ≤ i → i - n < m → get_or cs (i - n) None ≡ Some x
      → slice_get (run cs from n ++ run cs 0 m) i ≡ Some x
  slice_get-in_second cs from n i m x r s h l e =
      grind (arith, slice_get-after (run cs from n) (run cs 0 m) i, length-run, slice_get-run)

  pub ruleset two_runs = (
    nat_tests,
    slice_get-in_first,
    slice_get-in_second,
    slice_get_past,
    run_filled,
    first_filled,
    length-run,
  )
