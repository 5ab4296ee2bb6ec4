-- How the sizes of requests are rounded up.
use Rattle.std.specs.Prelude.{◌≡◌, ℕ, ◌-◌, ◌^◌, ◌<◌, ◌≤◌, max, nat_le, if◌then◌else◌}
use Rattle.std.specs.Int.{IsNextPowerOfTwo}
use lib.Count.{count_leading_zeros}

-- the bytes of the smallest class, and of the largest: 16 and 16 MiB
abbrev pub least_class : ℕ
least_class = 16

abbrev pub greatest_class : ℕ
greatest_class = 16777216

-- a request for `n` bytes is rounded up to `m`: the next power of two, or `n` itself above all
-- classes
abbrev pub IsRoundedSize : ℕ → ℕ → Type 0
IsRoundedSize n m = (n ≤ greatest_class → IsNextPowerOfTwo (max least_class n) m)
    × (greatest_class < n → m ≡ n)

-- that size, computed from the bits of `n`
abbrev pub rounded_size : ℕ → ℕ
rounded_size n = if nat_le n greatest_class
    then 2 ^ (64 - count_leading_zeros 64 (max least_class n - 1)) else n

-- the alignment that is requested in place of `a` for `n` bytes: 16 in each class, else `a`
abbrev pub rounded_align : ℕ → ℕ → ℕ
rounded_align n a = if nat_le n greatest_class then 16 else a
