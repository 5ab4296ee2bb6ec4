use Rattle.std.proofs.Common.{◌≡◌, ℕ, ◌<◌, ◌≤◌}
use Rattle.aa_table.specs.Slots.{tag_at}
use Rattle.aa_table.proofs.walk.last_taken.Given as goal

-- the slots after are free
abbrev pub invariant-each : goal.invariant-each
invariant-each l = record {
  within : l.last ≤ l.end;
  free : (i : ℕ) → l.last ≤ i → i < l.end → tag_at l.tags i ≡ 0;
}

abbrev pub decreases-each : goal.decreases-each
decreases-each l = l.last
