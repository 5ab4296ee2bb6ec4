-- The values in the first places of a block, one of which is read or written anew.
use Rattle.aa_raw.proofs.Common.{IsRun, List, None, Option, Some, ap, arith, cases_eq, drop, get_or, get_or-drop, get_or-map, get_or-set_other, get_or-set_same, get_or-take, length-set, map-set, run, same_Some, slice_set, zero-add, ℕ, ◌+◌, ◌<◌, ◌∙◌, ◌≡◌}
use Rattle.aa_raw.proofs.Places.{first_filled}
use Rattle.aa_raw.proofs.Runs.{filled-run, length-run, run-filled, run-is}
use Rattle.std.proofs.Math.Seq.{take-set-lt}

module _ {X : Type 0} where
  -- one of the first places is filled, and written anew
  pub IsRun-set : (cs : List (Option X)) (n i : ℕ) (w : X) → IsRun cs 0 n
      → IsRun (slice_set cs i (Some w)) 0 n
  IsRun-set cs n i w r =
      filled-run (slice_set cs i (Some w)) 0 n (omega (arith, length-set cs i (Some w), r.0))
      (λ k h. grind (
        arith,
        r.0,
        first_filled cs n k r h,
        get_or-set_same,
        get_or-set_other,
        cases_eq k i,
      ))

  pub run-set : (cs : List (Option X)) (n i : ℕ) (w : X) → IsRun cs 0 n → i < n
      → run (slice_set cs i (Some w)) 0 n ≡ slice_set (run cs 0 n) i w
  run-set cs n i w r h = run-is (slice_set cs i (Some w)) 0 n (slice_set (run cs 0 n) i w)
      (grind (arith, take-set-lt, run-filled cs 0 n r, map-set))

  -- the value that is read in a run, and there
  pub run-at_from : (cs : List (Option X)) (from n i : ℕ) (x : X) → IsRun cs from n → i < n
      → get_or cs (from + i) None ≡ Some x → x ≡ get_or (run cs from n) i x
  run-at_from cs from n i x r h e =
      same_Some x (get_or (run cs from n) i x)
      (grind (
        arith,
        e,
        get_or-take n (drop from cs) i None,
        get_or-drop,
        run-filled cs from n r,
        get_or-map,
        length-run,
      ))

  pub run-at : (cs : List (Option X)) (n i : ℕ) (x : X) → IsRun cs 0 n → i < n → get_or cs i None
      ≡ Some x → x ≡ get_or (run cs 0 n) i x
  run-at cs n i x r h e = run-at_from cs 0 n i x r h (ap (λ k. get_or cs k None) (zero-add i) ∙ e)
