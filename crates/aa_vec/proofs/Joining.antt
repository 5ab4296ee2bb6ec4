-- Runs of elements that are moved from one vector to another.
use Rattle.aa_vec.proofs.Common.{◌≡◌, ℕ, ◌+◌, ◌-◌, ◌≤◌, List, ◌++◌, length, take, drop, Option, sym, ap, ◌∙◌, arith, IsRun, run, drop-drop, drop-with, run-drop, with_run, IsRun-rest, run-transferred}

module _ {X : Type 0} where
  -- the last k - at of k values, moved after the first n places of another block
  pub run-rest_transferred : (cs ds : List (Option X)) (n k at : ℕ) → n + (k - at) ≤ length cs
      → at ≤ k → IsRun ds 0 k → run (with_run cs n (k - at) (take (k - at) (drop at ds))) 0
      (n + (k - at)) ≡ run cs 0 n ++ drop at (run ds 0 k)
  run-rest_transferred cs ds n k at fits h r =
      run-transferred cs ds n at (k - at) fits (IsRun-rest ds at k h r)
      ∙ ap (λ xs. run cs 0 n ++ xs)
      (sym (run-drop ds 0 at at k (k - at) (omega arith) (omega arith) r))

  -- the places after them are unchanged
  pub drop-transferred : (cs : List (Option X)) (n k : ℕ) (ys : List (Option X)) → n + k ≤ length cs
      → length ys ≡ k → drop (n + k) (with_run cs n k ys) ≡ drop k (drop n cs)
  drop-transferred cs n k ys fits long = drop-with cs n k ys fits long ∙ sym (drop-drop k n cs)

pub ruleset transferred = (run-rest_transferred, drop-transferred)
