-- Lemmas on blocks in further forms that callers write: a transfer to or from the first places, a
-- place that is taken from and then put into, and `len - at - 1` for how many follow.
use Rattle.std.proofs.Common.{◌≡◌, ◌+◌, ◌-◌, ◌≤◌, ◌++◌, ℕ, List, Option, arith, length, take, drop, sym, ◌∙◌, set-set}
use Rattle.aa_raw.specs.Places.{IsRun, run, with_run}
use Rattle.aa_raw.proofs.Calls.{in_runs as runs_moved, IsRun-rest, run-transferred, IsRun-transferred, run-transferred_there}
use Rattle.aa_raw.proofs.Positions.{at_positions as one_position}
use Rattle.aa_raw.proofs.Runs.{run-drop}

module _ {X : Type 0} where
  -- the first k values of ds put after the first n of cs
  pub run-joined : (cs ds : List (Option X)) (n k : ℕ) → n + k ≤ length cs → IsRun ds 0 k
      → run (with_run cs n k (take k ds)) 0 (n + k) ≡ run cs 0 n ++ run ds 0 k
  run-joined cs ds n k h f = run-transferred cs ds n 0 k h f

  pub IsRun-joined_there : (cs ds : List (Option X)) (n k : ℕ) → n + k ≤ length cs → IsRun ds 0 k
      → IsRun cs 0 n → IsRun (with_run cs n k (take k ds)) 0 (n + k)
  IsRun-joined_there cs ds n k h f e = IsRun-transferred cs ds n 0 k h f e

  -- those of the first n from `at` on put at the first places of cs
  pub run-parted : (cs ds : List (Option X)) (at n : ℕ) → at ≤ n → n - at ≤ length cs → IsRun ds 0 n
      → run (with_run cs 0 (n - at) (take (n - at) (drop at ds))) 0 (n - at) ≡ drop at (run ds 0 n)
  run-parted cs ds at n w h e = run-transferred_there cs ds 0 at (n - at) (omega arith)
      (IsRun-rest ds at n w e) ∙ sym (run-drop ds 0 at at n (n - at) (omega arith) (omega arith) e)

-- how many follow the one at i, as callers count them
pub count_behind : (n i : ℕ) → n - i - 1 ≡ n - 1 - i
count_behind n i = omega arith

pub ruleset in_runs = (runs_moved, run-joined, IsRun-joined_there, run-parted)

pub ruleset at_positions = (one_position, set-set, count_behind)
