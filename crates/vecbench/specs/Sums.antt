-- A checksum, which each element and the order of the elements determine.
use Rattle.std.specs.Prelude.{ℕ, ◌+◌, ◌*◌, ◌%◌, ◌^◌, List, [], ◌∷◌}

-- the checksum of a list of elements after the checksum `sum`: for each element 31 times the sum so
-- far, plus the number of the element, in 64 bits
abbrev pub checksum_from : {E : Type 0} → (E → ℕ) → ℕ → List E → ℕ
checksum_from number_of sum [] = sum
checksum_from number_of sum (x ∷ xs) = checksum_from number_of
    ((sum * 31 % 2 ^ 64 + number_of x) % 2 ^ 64) xs

-- the number of an element of three parts: their sum, in 32 bits
abbrev pub number_of_wide : ℕ → ℕ → ℕ → ℕ
number_of_wide first second third = ((first + second) % 2 ^ 64 + third) % 2 ^ 64 % 2 ^ 32
