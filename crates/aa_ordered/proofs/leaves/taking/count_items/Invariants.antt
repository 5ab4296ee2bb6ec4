use Rattle.std.proofs.Common.{◌≡◌, ◌*◌, ◌≤◌, sum_by, take}
use Rattle.aa_ordered.proofs.leaves.taking.count_items.Given as goal

-- the items so far
abbrev pub invariant-each : goal.invariant-each
invariant-each l = record {
  sum : l.count ≡ sum_by (λ h. h.len) (take l.i l.heads);
  small : l.count ≤ l.i * 64;
}
