-- What the errors say and print.
use Rattle.std.specs.Prelude.{◌≡◌, ℕ, ◌*◌, ◌^◌, ◌<◌, ◌≤◌, ◌||◌, ◌==◌, nat_le, if◌then◌else◌, List, codes, ⊤}
use Rattle.aa_raw.specs.declared.collections.TryReserveError.{TryReserveError}
use Rattle.aa_raw.specs.declared.collections.TryReserveErrorKind.{TryReserveErrorKind}
use Rattle.aa_raw.specs.declared.collections.TryReserveErrorKind.TheVariants.{CapacityOverflow, AllocError}

-- the error of a failed request for `n` elements of `size` bytes: `AllocError` with the number `n`,
-- or `CapacityOverflow` if no block has so many bytes, or the elements are zero-sized
abbrev pub error_for : (size n : ℕ) → TryReserveError
error_for size n =
    record {
      kind = if size == 0 || nat_le (2 ^ 63) (n * size) then CapacityOverflow else AllocError n;
    }

-- `e` is an error for at least `n` places: the number of an `AllocError` is at least `n`; a
-- `CapacityOverflow` has no number
abbrev pub IsErrorForAtLeast : TryReserveError → (n : ℕ) → Type 0
IsErrorForAtLeast e n =
    elim e.kind as (λ _. Type 0) [ CapacityOverflow ↦ ⊤ | AllocError capacity ↦ n ≤ capacity ]

-- `e` is an error for `n` places: the number of an `AllocError` is exactly `n`
abbrev pub IsErrorFor : TryReserveError → (n : ℕ) → Type 0
IsErrorFor e n =
    elim e.kind as (λ _. Type 0) [ CapacityOverflow ↦ ⊤ | AllocError capacity ↦ capacity ≡ n ]

-- the allocation of a block of `n` elements of `size` bytes failed with `e`: neither is 0
abbrev pub AllocationFails : (n size : ℕ) → TryReserveError → Type 0
AllocationFails n size e = (0 < n) × (0 < size) × (e ≡ error_for size n)

-- making `n` clones in a new block failed with `e`, an error for `n` places. If no clone can fail,
-- the allocation of the block failed
abbrev pub ClonesFail : (infallible : Type 0) → (n size : ℕ) → TryReserveError → Type 0
ClonesFail infallible n size e = (infallible → AllocationFails n size e) × IsErrorFor e n

-- the text that an error of this kind prints
abbrev pub text_of_kind : TryReserveErrorKind → List ℕ
text_of_kind CapacityOverflow =
    codes "memory allocation failed because the computed capacity exceeded the collection's maximum"
text_of_kind (AllocError capacity) =
    codes "memory allocation failed because the memory allocator returned an error"

-- the text that the error `e` prints
abbrev pub text_of : TryReserveError → List ℕ
text_of e = text_of_kind e.kind
