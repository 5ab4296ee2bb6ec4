-- Which shelf of a rack is for which size.
use Rattle.std.specs.Prelude.{ℕ, ◌+◌, ◌*◌, ◌^◌, ◌<◌, ◌≤◌}

-- `place` is the shelf for blocks of `size` bytes, if that is a class: the first shelf for sizes
-- below 32, the next for those below 64 and so on, and the last for all from 2 ^ 24 on
abbrev pub IsPlace : ℕ → ℕ → Type 0
IsPlace size place = (place < 21) × (0 < place → 2 ^ (place + 4) ≤ size)
    × (place < 20 → size < 2 ^ (place + 5))

-- the bytes of a block of the shelf at `place`
abbrev pub class_size : ℕ → ℕ
class_size place = 16 * 2 ^ place
