use Rattle.std.proofs.Common.{◌≡◌, ℕ, ◌+◌, ◌<◌}
use Rattle.std.specs.Prelude.{◌/◌}
use Rattle.aa_table.specs.Slots.{probe_group_of}
use Rattle.aa_table.proofs.Naming.{IsFull}
use Rattle.aa_table.proofs.slots.put_overflow.Given as goal

-- the groups before were full, and nothing was written
abbrev pub invariant-each : goal.invariant-each
invariant-each l = record {
  tags : l.tags ≡ l.fn.tags;
  overflows : l.overflows ≡ l.fn.overflows;
  full : (k : ℕ) → k < l.before → IsFull l.tags (probe_group_of l.groups (l.from / 16) (k + 1));
}
