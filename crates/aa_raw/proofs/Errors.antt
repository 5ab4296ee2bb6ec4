-- What the error of a failed allocation says, for collections that allocate.
use Rattle.aa_raw.proofs.Common.{TryReserveError, arith, le-mul_of_pos_right, nat_tests, refl, rules, suc, usize_max, zero, ℕ, ◌*◌, ◌<◌, ◌^◌, ◌≡◌, ◌≤◌}
use Rattle.aa_raw.specs.Errors.{error_for, AllocationFails, IsErrorFor}
use Rattle.aa_raw.specs.Room.{LacksRoom}
use Rattle.aa_raw.specs.declared.collections.TryReserveErrorKind.TheVariants.{CapacityOverflow}

-- more than `isize::MAX` bytes are no block's
pub error_for-bytes : (size n : ℕ) → 2 ^ 63 ≤ n * size
    → error_for size n ≡ record { kind = CapacityOverflow }
error_for-bytes size n beyond = search (rules, nat_tests)

-- nor are more than `usize::MAX` elements
pub error_for-beyond : (size n c : ℕ) → usize_max < n → n ≤ c
    → error_for size c ≡ record { kind = CapacityOverflow }
error_for-beyond zero n c beyond within = refl
error_for-beyond (suc s) n c beyond within = grind (arith, error_for-bytes, le-mul_of_pos_right)

-- the error for `n` elements has no other number
pub error_for-number : (size n : ℕ) → IsErrorFor (error_for size n) n
error_for-number size n = search (rules, nat_tests)

-- a failed allocation of `n` elements has no other number
pub AllocationFails-number : (size n : ℕ) (e : TryReserveError) → AllocationFails n size e
    → IsErrorFor e n
AllocationFails-number size n e fails = rw fails.2 (error_for-number size n)

-- a growth that failed has the number of places that it requested
pub LacksRoom-number : (size capacity n k requested : ℕ) (e : TryReserveError)
    → LacksRoom size capacity n k requested e → IsErrorFor e requested
LacksRoom-number size capacity n k requested e lacks =
    rw lacks.exact (error_for-number size requested)

pub ruleset numbers =
    (error_for-bytes, error_for-beyond, error_for-number, AllocationFails-number, LacksRoom-number)
