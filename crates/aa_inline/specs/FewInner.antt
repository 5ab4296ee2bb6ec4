-- What contracts see of a `Few`.
use Rattle.std.specs.Prelude.{ℕ, ◌-◌, List, length, take}

-- the items of `xs` at its first places, where only `n` of `m` places have one
abbrev pub in_front : {X : Type 0} → (m n : ℕ) → List X → List X
in_front m n xs = take (length xs - (m - n)) xs
