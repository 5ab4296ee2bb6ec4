-- The digits of an element, put before an index from the last on.
use Rattle.vecscript.proofs.Common.{◌≡◌, ℕ, ◌-◌, ◌^◌, ◌<◌, ◌≤◌, List, ◌∷◌, length, length-append, drop, decimal, arith, append_assoc}
use Rattle.std.specs.Prelude.{slice_set}
use Rattle.std.proofs.lemmas.Fmt.{decimal_digit, decimal_step, length-decimal-le}
use Rattle.std.proofs.lemmas.List.{drop-set, length-set}

pub put_before : (buffer : List ℕ) (at x : ℕ) → 0 < at → at ≤ length buffer → drop (at - 1) (slice_set buffer (at - 1) x) ≡ x ∷ drop at buffer
put_before buffer at x some within = grind (arith, drop-set buffer (at - 1) x)

pub put_two_before : (buffer : List ℕ) (at x y : ℕ) → 2 ≤ at → at ≤ length buffer → drop (at - 2) (slice_set (slice_set buffer (at - 1) x) (at - 2) y) ≡ y ∷ x ∷ drop at buffer
put_two_before buffer at x y some within =
    let first = put_before buffer at x (omega arith) within in
    grind (arith, drop-set (slice_set buffer (at - 1) x) (at - 2) y, length-set buffer (at - 1) x)

pub length-decimal : (x : ℕ) → x < 2 ^ 32 → length (decimal x) ≤ 10
length-decimal x fits = length-decimal-le 10 x (omega arith) (omega arith) (omega arith)

-- what each step of laying out relies on
pub ruleset decimals = (put_before, put_two_before, length-decimal, decimal_digit, decimal_step, append_assoc, length-append, drop-set, length-set)
