use Rattle.std.proofs.Common.{◌≡◌, ℕ, ◌+◌, ◌*◌, ◌-◌, ◌<◌, ◌≤◌, length}
use Rattle.std.specs.Prelude.{◌/◌}
use Rattle.aa_table.specs.Slots.{tag_at}
use Rattle.aa_table.specs.Walks.{mask_of}
use Rattle.aa_table.proofs.walk.Walk.next_taken.Given as goal

-- the mask is that of the group, and no slot before the group is left
abbrev pub invariant-each : goal.invariant-each
invariant-each l = record {
  from : l.self.from ≡ l.fn.self.from;
  aligned : l.self.base ≡ 16 * (l.self.base / 16);
  within : l.self.base ≤ length l.tags;
  before : l.fn.self.from ≤ l.self.base + 16;
  mask : l.self.mask ≡ mask_of l.tags l.self.base l.fn.self.from;
  free : (s : ℕ) → l.fn.self.from ≤ s → s < l.self.base → tag_at l.tags s ≡ 0;
}

abbrev pub decreases-each : goal.decreases-each
decreases-each l = length l.tags - l.self.base
