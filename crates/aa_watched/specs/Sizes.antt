-- The classes of sizes of requests.
use Rattle.std.specs.Prelude.{ℕ, ◌+◌, ◌-◌, ◌*◌, ◌^◌, ◌<◌, ◌≤◌}

-- the classes are numbered from 0 to 7
abbrev pub class_count : ℕ
class_count = 8

-- the largest size of a class, except the last: 16, 64, 256 .. 65,536 bytes
abbrev pub greatest_of : ℕ → ℕ
greatest_of class = 16 * 4 ^ class

-- `class` is the first class that is large enough for `size`, or the last one
abbrev pub IsClass : ℕ → ℕ → Type 0
IsClass size class =
    (class < class_count) × (class + 1 < class_count → size ≤ greatest_of class)
    × (0 < class → greatest_of (class - 1) < size)
