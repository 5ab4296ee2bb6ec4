use Rattle.std.proofs.Common.{◌≡◌, ◌<◌, ◌≤◌, ◌-◌, length, true, false}
use Rattle.std.specs.List.{HoldsAt}
use Rattle.aa_ordered.specs.Ranges.{is_before}
use Rattle.aa_ordered.proofs.range.count_before.Given as goal

-- the entry below `low` is before the cut, and the one at `high` is after it
abbrev pub invariant-loop-low : goal.invariant-loop-low
invariant-loop-low g l = record {
  ordered : l.low ≤ l.high;
  within : l.high ≤ length l.entries;
  before : 0 < l.low → HoldsAt (λ e. is_before g.K.Ord.cmp l.key l.after e ≡ true) l.entries (l.low - 1);
  after : l.high < length l.entries → HoldsAt (λ e. is_before g.K.Ord.cmp l.key l.after e ≡ false) l.entries l.high;
}

abbrev pub decreases-loop-low : goal.decreases-loop-low
decreases-loop-low g l = l.high - l.low
