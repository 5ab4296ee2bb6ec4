-- What the memory of a block has cost so far.
use Rattle.std.specs.Prelude.{ℕ, ◌+◌, ◌*◌, ◌^◌, ◌≤◌, max, ◌==◌, if◌then◌else◌}
use Rattle.aa_raw.specs.declared.raw_vec.Growth.{Growth}
use Rattle.aa_raw.specs.declared.raw_vec.Growth.TheVariants.{Doubling, Sparing, InPlace}

-- the number of elements that growth moved, of blocks that were allocated, and the greatest number
-- of places held at once: those of both blocks while elements move from one to the other
pub record Growths : Type 0 where
  pub moved : ℕ
  pub blocks : ℕ
  pub held : ℕ

-- the cost of a new block for `n` elements of `size` bytes: nothing is allocated for none of them,
-- or for zero-sized ones
abbrev pub of_new : (size n : ℕ) → Growths
of_new size n =
    let c = if size == 0 then 0 else n in
    record { moved = 0; blocks = if c == 0 then 0 else 1; held = c }

-- the cost `g` and that of a growth from `old` to `new` places, which moved `n` elements
abbrev pub with_growth : Growths → (n old new : ℕ) → Growths
with_growth g n old new =
    record { moved = g.moved + n; blocks = g.blocks + 1; held = max g.held (old + new) }

-- the cost `g` and that of a shrink from `old` to `new` places, which allocates unless that is 0
abbrev pub with_shrink : Growths → (old new : ℕ) → Growths
with_shrink g old new =
    record {
      moved = g.moved;
      blocks = g.blocks + (if new == 0 then 0 else 1);
      held = max g.held (old + new);
    }

-- `blocks` are at most `2 + log2 n`, or so many by the sparing policy, whose base is 3/2: no more
-- does growth allocate while `n` elements are added to a list that was empty
abbrev pub FewBlocks : Growth → (blocks n : ℕ) → Type 0
FewBlocks Doubling blocks n = 2 ^ blocks ≤ max 1 (4 * n)
FewBlocks Sparing blocks n = 4 * 3 ^ blocks ≤ 2 ^ blocks * max 4 (9 * n)
FewBlocks InPlace blocks n = 2 ^ blocks ≤ max 1 (4 * n)
