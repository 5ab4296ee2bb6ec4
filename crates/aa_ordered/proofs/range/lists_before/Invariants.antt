use Rattle.std.proofs.Common.{◌<◌, ◌≤◌, ◌-◌, length, true, false}
use Rattle.std.specs.List.{HoldsAt}
use Rattle.aa_ordered.specs.Ranges.{is_before, Begins}
use Rattle.aa_ordered.proofs.range.lists_before.Given as goal

-- the list below `low` begins before the cut, and the one at `high` after it
abbrev pub invariant-loop-low : goal.invariant-loop-low
invariant-loop-low g l = record {
  ordered : l.low ≤ l.high;
  within : l.high ≤ length l.lists;
  before : 0 < l.low → HoldsAt (Begins (is_before g.K.Ord.cmp l.key l.after) true) l.lists (l.low - 1);
  after : l.high < length l.lists → HoldsAt (Begins (is_before g.K.Ord.cmp l.key l.after) false) l.lists l.high;
}

abbrev pub decreases-loop-low : goal.decreases-loop-low
decreases-loop-low g l = l.high - l.low
