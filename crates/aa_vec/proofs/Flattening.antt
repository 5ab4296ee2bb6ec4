-- Arrays whose elements are appended to a vector, one array after another.
use Rattle.aa_vec.proofs.Common.{append-nil, ◌≡◌, ℕ, ◌+◌, ◌-◌, ◌*◌, ◌<◌, ◌≤◌, List, ◌++◌, Option, None, Some, get_or, ap, ◌∙◌, arith, append_assoc, length-append, slice_set, nat_tests, usize_max, IsRun, run, flattened, new_capacity, run-of_none, run-take_first}

module _ {T : Type 0} (vs : List T) (cs : List (Option (List T))) where
  -- the first of the remaining lists is appended
  pub flattened-next : (x : List T) (i n : ℕ) → i < n → IsRun cs i (n - i) → get_or cs i None
      ≡ Some x → (vs ++ x) ++ flattened (run (slice_set cs i None) (i + 1) (n - (i + 1)))
      ≡ vs ++ flattened (run cs i (n - i))
  flattened-next x i n h r e =
      append_assoc vs x (flattened (run (slice_set cs i None) (i + 1) (n - (i + 1))))
      ∙ ap (λ xss. vs ++ flattened xss) (run-take_first cs i n x h r e)

  -- none remains
  pub flattened-none : (i n : ℕ) → n ≤ i → vs ++ flattened (run cs i (n - i)) ≡ vs
  flattened-none i n h = ap (λ xss. vs ++ flattened xss) (run-of_none cs i (n - i) (omega arith))
      ∙ append-nil vs

pub ruleset in_arrays = (nat_tests)

pub ruleset poured = (flattened-next, flattened-none, length-append)
