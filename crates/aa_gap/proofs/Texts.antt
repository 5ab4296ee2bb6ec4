-- A list in two parts, cut after the first.
use Rattle.aa_gap.proofs.Common.{Bor, IsItemAt, List, None, Option, Some, ap, arith, drop, drop-append-add, length, length-append, nat_tests, option_copied, refl, slice_get, slice_get-after, slice_get-front, slice_get_past, slice_get_read, sym, take, take-append-add, ℕ, ◌++◌, ◌+◌, ◌-◌, ◌∙◌, ◌≡◌, ◌≤◌}

pub take_after : {T : Type 0} (xs ys : List T) (k : ℕ) → length xs ≤ k → take k (xs ++ ys)
    ≡ xs ++ take (k - length xs) ys
take_after xs ys k h = let e : k ≡ length xs + (k - length xs) = omega arith in
    ap (λ i. take i (xs ++ ys)) e ∙ take-append-add xs ys (k - length xs)

pub drop_after : {T : Type 0} (xs ys : List T) (k : ℕ) → length xs ≤ k → drop k (xs ++ ys)
    ≡ drop (k - length xs) ys
drop_after xs ys k h = let e : k ≡ length xs + (k - length xs) = omega arith in
    ap (λ i. drop i (xs ++ ys)) e ∙ drop-append-add xs ys (k - length xs)

-- what a slice's `get` returns
pub get_at : {T : Type 0} (xs : List T) (i : ℕ) (r : Option (Bor T)) → IsItemAt xs i r
    → option_copied r ≡ slice_get xs i
get_at xs i None h = sym (slice_get_past xs i h.3)
get_at xs i (Some x) h = sym (slice_get_read xs (length xs) i x.now refl h.3.0 h.1)

pub ruleset cut_after = (take_after, drop_after)

-- and what the two of a text return
pub ruleset get_item = (get_at, slice_get-front, slice_get-after, nat_tests)

-- a list in two parts is empty if both are
pub ruleset none_of_both = (length-append, nat_tests)
