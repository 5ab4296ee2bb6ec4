-- Ranges of a list, as calls take them: `a..b`, `a..`, `..b`, `a..=b` and `..`.
use Rattle.std.specs.Prelude.{ℕ, ◌≤◌}
use Rattle.std_alloc.specs.declared.part.SliceRange.{Ghosts}

-- `range` is a range of a list of `n` elements: it starts at or before its end, and ends within the
-- list. If it is an `a..=b`, it was not iterated to its end
abbrev pub IsRangeOf : {R : Type 0} → Ghosts R → (range : R) → (n : ℕ) → Type 0
IsRangeOf part range n =
    (part.start range ≤ part.end range n) × (part.end range n ≤ n) × part.not_exhausted range
