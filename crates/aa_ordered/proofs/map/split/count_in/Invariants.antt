use Rattle.std.proofs.Common.{◌≡◌, ◌-◌, ◌≤◌, length, take}
use Rattle.aa_ordered.specs.Balance.{joined}
use Rattle.aa_ordered.proofs.map.split.count_in.Given as goal

-- the items of the lists so far are counted
abbrev pub invariant-each : goal.invariant-each
invariant-each g l = record {
  within : l.i ≤ l.fn.end;
  counted : l.count ≡ length (joined (take l.i l.fn.leaves.lists));
}

abbrev pub decreases-each : goal.decreases-each
decreases-each g l = l.fn.end - l.i
