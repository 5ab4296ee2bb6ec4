-- A size is rounded up to one size only.
--     one_rounded_size      two such sizes are the same
--     is_rounded, rounded_exactly      `rounded_size` is such a size, and the only one
--     enough      no size is rounded down
use Rattle.std.proofs.Common.{◌≡◌, ℕ, ◌-◌, ◌*◌, ◌<◌, ◌≤◌, ◌^◌, Bool, T, true, false, refl, sym, ap, ◌∙◌, suc, subst, arith, max, not, pow_mono, pow-suc, lt_of_not-le}
use lib.Dec.{leb→le, nleb→lt}
use Rattle.std.specs.Prelude.{nat_le, if◌then◌else◌}
use Rattle.std.specs.Int.{IsNextPowerOfTwo}
use lib.Count.{count_leading_zeros}
use mathlib.Core.Logic.{dite}
use native.Mathlib.Decide.{dec_le}
use Rattle.std.proofs.lemmas.Nat.{leading_top}
use Rattle.aa_allocators.specs.Rounding.{IsRoundedSize, greatest_class, rounded_size}

-- whether a request of n bytes is rounded up
abbrev rounds : ℕ → Bool
rounds n = nat_le n greatest_class

is_small : (n : ℕ) → rounds n ≡ true → n ≤ greatest_class
is_small n e = leb→le n greatest_class (subst T (sym e) tt)

is_great : (n : ℕ) → rounds n ≡ false → greatest_class < n
is_great n e = nleb→lt n greatest_class (subst (λ (x : Bool). T (not x)) (sym e) tt)

-- of two next powers none is the greater
at_most : (n m k : ℕ) → IsNextPowerOfTwo n m → IsNextPowerOfTwo n k → 0 < n → m ≤ k
at_most n m k one other pos =
    let i = one.0.0 in let j = other.0.0 in let is : m ≡ 2 ^ i = one.0.1 in let is' : k ≡ 2 ^ j = other.0.1 in
    dite (dec_le m k) (λ le. le) (λ not. let below : k < m = lt_of_not-le not in
    let fewer : suc j ≤ i = dite (dec_le (suc j) i) (λ le. le) (λ no. let low : 2 ^ i ≤ 2 ^ j = pow_mono (omega (arith, lt_of_not-le no)) in absurd (omega (arith, is, is', low, below))) in
    let twice : 2 ^ suc j ≤ 2 ^ i = pow_mono fewer in let double : 2 ^ suc j ≡ 2 ^ j * 2 = pow-suc 2 j in
    let half = one.2 in let enough = other.1 in absurd (omega (arith, is, is', twice, double, half, enough, pos)))

one_rounded_size_by : (n m k : ℕ) → IsRoundedSize n m → IsRoundedSize n k → (x : Bool) → rounds n ≡ x → m ≡ k
one_rounded_size_by n m k one other true e =
    let le = is_small n e in let pos : 0 < max 16 n = omega arith in
    let up = at_most (max 16 n) m k (one.0 le) (other.0 le) pos in let down = at_most (max 16 n) k m (other.0 le) (one.0 le) pos in omega (arith, up, down)
one_rounded_size_by n m k one other false e = one.1 (is_great n e) ∙ sym (other.1 (is_great n e))

pub one_rounded_size : (n m k : ℕ) → IsRoundedSize n m → IsRoundedSize n k → m ≡ k
one_rounded_size n m k one other = one_rounded_size_by n m k one other (rounds n) refl

abbrev power_from : ℕ → ℕ
power_from x = 2 ^ (64 - count_leading_zeros 64 (x - 1))

is_next : (x : ℕ) → 1 < x → x ≤ 2 ^ 63 → IsNextPowerOfTwo x (power_from x)
is_next x low high =
    let t = leading_top 64 (x - 1) (omega (arith, low)) (omega (arith, high)) in let k = 64 - count_leading_zeros 64 (x - 1) in
    let is : k ≡ suc t.0 = omega (arith, t.1) in
    let double : 2 ^ k ≡ 2 ^ t.0 * 2 = ap (λ (j : ℕ). 2 ^ j) is ∙ pow-suc 2 t.0 in let most : x - 1 < 2 ^ k = omega (arith, t.3, ap (λ (j : ℕ). 2 ^ j) is) in
    ((k, refl), omega (arith, most, low), omega (arith, double, t.2, low))

rounded_by : (n : ℕ) (x : Bool) → rounds n ≡ x → IsRoundedSize n (if x then power_from (max 16 n) else n)
rounded_by n true e =
    let le = is_small n e in ((λ _. is_next (max 16 n) (omega arith) (omega (arith, le))), (λ large. absurd (omega (arith, le, large))))
rounded_by n false e = let large = is_great n e in ((λ le. absurd (omega (arith, le, large))), (λ _. refl))

pub is_rounded : (n : ℕ) → IsRoundedSize n (rounded_size n)
is_rounded n = rounded_by n (rounds n) refl

enough_by : (n m : ℕ) → IsRoundedSize n m → (x : Bool) → rounds n ≡ x → n ≤ m
enough_by n m is true e = let next = is.0 (is_small n e) in omega (arith, next.1)
enough_by n m is false e = let same = is.1 (is_great n e) in omega (arith, same)

pub enough : (n m : ℕ) → IsRoundedSize n m → n ≤ m
enough n m is = enough_by n m is (rounds n) refl

pub rounded_exactly : (n m : ℕ) → IsRoundedSize n m → m ≡ rounded_size n
rounded_exactly n m is = one_rounded_size n m (rounded_size n) is (is_rounded n)
