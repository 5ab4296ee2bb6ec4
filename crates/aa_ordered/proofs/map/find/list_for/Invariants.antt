use Rattle.std.proofs.Common.{◌<◌, ◌≤◌, ◌-◌, length, drop, max, take}
use Rattle.aa_ordered.specs.Balance.{joined}
use Rattle.aa_ordered.specs.Entries.{AreGreater, AreLess}
use Rattle.aa_ordered.proofs.map.find.list_for.Given as goal

-- the lists before `low` have lesser keys, and those from `high` on greater ones
abbrev pub invariant-loop-high : goal.invariant-loop-high
invariant-loop-high g l = record {
  apart : l.low < l.high;
  within : l.high ≤ max (length l.leaves.lists) 1;
  before : AreLess (g.Q.Lookup.order l.key) (joined (take l.low l.leaves.lists));
  after : AreGreater (g.Q.Lookup.order l.key) (joined (drop l.high l.leaves.lists));
}

abbrev pub decreases-loop-high : goal.decreases-loop-high
decreases-loop-high g l = l.high - l.low
