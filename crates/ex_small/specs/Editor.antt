-- A line with a cursor: what contracts see of an editor.
use Rattle.std.specs.Prelude.{ℕ, ◌+◌, ◌-◌, ◌≤◌, List, ◌++◌, length}
use Rattle.allocator_api2.specs.Buffer.{Buffer}
use Rattle.ex_small.specs.Held.{reserved_capacity}

-- the bytes before the cursor, those after it, and the capacity of the line
pub record Line : Type 0 where
  pub before : List ℕ
  pub after : List ℕ
  pub capacity : ℕ  -- how many bytes fit before the line allocates

-- the line in the gap buffer `b`
abbrev pub line_of : {A : Type 0} → Buffer ℕ A → Line
line_of b = record { before = b.before; after = b.after; capacity = b.capacity }

-- all bytes of the line `l`
abbrev pub text : Line → List ℕ
text l = l.before ++ l.after

-- `l` with these bytes before and after the cursor
abbrev pub with_parts : Line → (before after : List ℕ) → Line
with_parts l before after = record { before = before; after = after; capacity = l.capacity }

-- the length of the line `l`
abbrev pub len : Line → ℕ
len l = length l.before + length l.after

-- `k` more bytes fit in `l`
abbrev pub HasRoom : Line → ℕ → Type 0
HasRoom l k = k ≤ l.capacity - len l

-- `l` after capacity for `k` more bytes was reserved
abbrev pub with_room : Line → (k : ℕ) → Line
with_room l k =
    record {
      before = l.before;
      after = l.after;
      capacity = reserved_capacity 1 l.capacity
          (len l) k;
    }
