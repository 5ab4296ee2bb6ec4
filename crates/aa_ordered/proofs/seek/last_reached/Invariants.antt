use Rattle.std.proofs.Common.{◌<◌, ◌≤◌, ◌+◌, length, take, drop}
use Rattle.aa_ordered.specs.Entries.{AreGreater, AreLess}
use Rattle.aa_ordered.proofs.seek.last_reached.Given as goal

-- the keys before `low` are less, and those after the next `count` are greater
abbrev pub invariant-loop-count : goal.invariant-loop-count
invariant-loop-count g l = record {
  some : 0 < l.count;
  within : l.low + l.count ≤ length l.entries;
  before : AreLess (g.Q.Lookup.order l.key) (take l.low l.entries);
  after : AreGreater (g.Q.Lookup.order l.key) (drop (l.low + l.count) l.entries);
}

abbrev pub decreases-loop-count : goal.decreases-loop-count
decreases-loop-count g l = l.count
