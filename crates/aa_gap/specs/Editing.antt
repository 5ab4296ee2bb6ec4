-- Gap buffers after edits.
use Rattle.std.specs.Prelude.{◌≡◌, ℕ, ◌+◌, ◌-◌, ◌≤◌, min, max, List, [], ◌∷◌, ◌++◌, take, drop, fold, Option, None}
use Rattle.std.specs.Iterator.{Yields, YieldsThen}
use Rattle.aa_raw.specs.Growth.{amortized}
use Rattle.aa_raw.specs.Growths.{FewBlocks}
use Rattle.aa_raw.specs.declared.collections.TryReserveError.{TryReserveError}
use Rattle.aa_gap.specs.declared.gap_buffer.Edit.{Edit}
use Rattle.aa_gap.specs.declared.gap_buffer.Edit.TheVariants.{Insert, DeleteBack, DeleteForward, MoveTo}
use Rattle.aa_gap.specs.Buffer.{Buffer, cursor, len, with_parts, moved_to, with_room, put, run_count, GrowsWithin, LacksRoom}
use Rattle.aa_gap.specs.Page.{page, edited, written_by, inserts, total}

-- for elements of `size` bytes
module _ {T A : Type 0} (size : ℕ) where
  -- `b` after an edit: an insert without a free place grows, and no other edit allocates
  abbrev pub with_edit : Buffer T A → Edit T → Buffer T A
  with_edit b (Insert x) = put (with_room size b 1) x
  with_edit b DeleteBack = with_parts b (take (cursor b - 1) b.before) b.after
  with_edit b DeleteForward = with_parts b b.before (drop 1 b.after)
  with_edit b (MoveTo q) = moved_to b (min q (len b))

  -- `new` is `old` after these `edits`, one after another: exactly, with its capacity and its
  -- counters, and as a page. The length grew by at most one for each insert, and each edit wrote at
  -- most what `written_by` says, in one run at most. Growth moved at most what `GrowsWithin` says,
  -- allocated few blocks, and held no more places at once than before, or than the growth of a full
  -- block for the last of so many elements
  pub record Edits (old : Buffer T A) (edits : List (Edit T)) (new : Buffer T A) : Type 0 where
    pub exact : new ≡ fold with_edit old edits
    pub leaves : page new ≡ fold edited (page old) edits
    pub alloc : new.alloc ≡ old.alloc
    pub growth : new.growth ≡ old.growth
    pub room : old.capacity ≤ new.capacity
    pub longer : len new ≤ len old + inserts edits
    pub writes : new.written ≤ old.written + total written_by edits (page old)
    pub runs : new.runs ≤ old.runs + total (λ e p. run_count (written_by e p)) edits (page old)
    pub grown : GrowsWithin old.growth old (inserts edits) new
    pub blocks : FewBlocks old.growth (new.grown.blocks - old.grown.blocks)
        (len old + inserts edits)
    pub held : let n = len old + inserts edits in
        new.grown.held ≤ max old.grown.held (n - 1 + amortized old.growth (n - 1) n 8)

module _ {T A : Type 0} where
  module _ {I : Type 0} (steps : I → Option (Edit T) → I → Type 0) (from : I)
      (size : ℕ) (old : Buffer T A) where
    -- all edits that came from `from` were applied to `old`, which is `new`
    pub record EditsAll (to : I) (new : Buffer T A) : Type 0 where
      pub edits : List (Edit T)
      pub yields : YieldsThen steps from edits None to
      pub done : Edits size old edits new

    -- the edits before an insert of `item` were applied to `old`, which is `new`, and then growth
    -- failed with `error`
    pub record EditsFail (error : TryReserveError) (to : I) (new : Buffer T A) : Type 0 where
      pub edits : List (Edit T)
      pub item : T
      pub yields : Yields steps from (edits ++ Insert item ∷ []) to
      pub done : Edits size old edits new
      pub cause : LacksRoom size new 1 error
