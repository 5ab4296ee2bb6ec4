-- What is written where gaps are closed: all kept elements after the first removed one, in one run
-- for each removed one.
use Rattle.aa_vec.proofs.Common.{Bool, List, [], ap, arith, cond, count_by, false, kept_after_removed, map, min, moved_over, not, refl, run_count, suc, sum_by-cons, sym, true, zero, ℕ, ◌+◌, ◌-◌, ◌<◌, ◌∙◌, ◌∷◌, ◌≡◌, ◌≤◌}

-- how many of the elements with these results will be written: all kept ones, once there is a gap
abbrev pub still : (gap : ℕ) → List Bool → ℕ
still zero stays = kept_after_removed stays
still (suc gap) stays = count_by (λ s. s) stays

pub still-none : (gap : ℕ) → still gap [] ≡ 0
still-none zero = refl
still-none (suc gap) = refl

-- of elements that are kept where it is true, how many are removed
abbrev pub removed_count : List Bool → ℕ
removed_count stays = count_by not stays

-- one more result
pub counted : (p : Bool → Bool) (a : Bool) (stays : List Bool) → count_by p (a ∷ stays)
    ≡ cond (p a) 1 0 + count_by p stays
counted p a stays = sum_by-cons (λ x. cond (p x) 1 0) a stays

-- the same of the results of calls, and of results that are true for the removed elements
pub removed-calls : {X : Type 0} (answer : X → Bool) (calls : List X)
    → removed_count (map answer calls) ≡ count_by (λ t. not (answer t)) calls
removed-calls answer [] = refl
removed-calls answer (t ∷ calls) =
    omega (
      arith,
      counted not (answer t) (map answer calls),
      sum_by-cons (λ s. cond (not (answer s)) 1 0) t calls,
      removed-calls answer calls,
    )

pub removed-not : (results : List Bool) → removed_count (map not results)
    ≡ count_by (λ goes. goes) results
removed-not [] = refl
removed-not (a ∷ results) =
    grind (
      arith,
      counted not (not a) (map not results),
      counted (λ goes. goes) a results,
      removed-not results,
    )

-- once there is a gap, all that are moved over it are written
pub moved_some : (gap k : ℕ) → 0 < gap → moved_over gap k ≡ k
moved_some gap k some = grind (arith, some)

-- and none where there is no gap
pub moved_none : (gap k : ℕ) → gap ≡ 0 → moved_over gap k ≡ 0
moved_none gap k none = grind (arith, none)

pub moved_most : (gap k : ℕ) → moved_over gap k ≤ k
moved_most gap k = grind arith

-- elements are moved in one run, if there are any
pub one_run : (n : ℕ) → run_count n ≤ 1
one_run n = grind arith

-- a gap is closed in one run, and none where there is no gap
pub few_runs : (gap k : ℕ) → run_count (moved_over gap k) + (gap - 1) ≤ gap
few_runs gap k = grind arith

-- and in none where none is moved
pub no_run : (gap k : ℕ) → run_count (moved_over gap k) ≤ k
no_run gap k = grind arith

-- of n elements the first k are kept, and the next, if there is one, is removed; after it so many
-- are kept
abbrev pub marks : (k n : ℕ) → List Bool → List Bool
marks zero zero calls = calls
marks zero (suc n) calls = false ∷ calls
marks (suc k) zero calls = calls
marks (suc k) (suc n) calls = true ∷ marks k n calls

-- how many are kept, and one more is removed, if there is one, after which all kept ones are
-- written
pub marks-are : (k n : ℕ) → k ≤ n → (calls : List Bool)
    → (count_by (λ s. s) (marks k n calls) ≡ k + count_by (λ s. s) calls)
    × (removed_count (marks k n calls) ≡ min (n - k) 1 + removed_count calls)
    × (kept_after_removed (marks k n calls) ≡ still (min (n - k) 1) calls)
marks-are zero zero h calls = (omega arith, omega arith, refl)
marks-are zero (suc n) h calls = (
  omega (arith, counted (λ s. s) false calls),
  omega (arith, counted not false calls),
  ap (λ i. still i calls) {x = 1} {y = min (suc n - 0) 1} (omega arith),
)
marks-are (suc k) zero h calls = absurd (omega (arith, h))
marks-are (suc k) (suc n) h calls =
    grind (
      arith,
      marks-are k n (omega (arith, h)) calls,
      counted (λ s. s) true (marks k n calls),
      counted not true (marks k n calls),
    )

-- those k are written, once there is a gap, and all kept ones after a removed one
pub marks-written : (gap k n : ℕ) → k ≤ n → (calls : List Bool) → still gap (marks k n calls)
    ≡ moved_over gap k + still (gap + min (n - k) 1) calls
marks-written zero k n h calls =
    omega (
      arith,
      (marks-are k n h calls).2,
      ap (λ i. still i calls) {x = min (n - k) 1} {y = 0 + min (n - k) 1} (omega arith),
    )
marks-written (suc gap) k n h calls = (marks-are k n h calls).0
    ∙ ap (λ i. i + count_by (λ s. s) calls) (sym (moved_some (suc gap) k (omega arith)))
    ∙ ap (λ i. moved_over (suc gap) k + still i calls) {x = suc (gap + min (n - k) 1)}
    {y = suc gap + min (n - k) 1} (omega arith)
