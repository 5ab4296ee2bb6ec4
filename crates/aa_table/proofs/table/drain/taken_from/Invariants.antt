use Rattle.std.proofs.Common.{ℕ, ◌<◌, ◌≡◌, ◌≤◌}
use Rattle.aa_table.specs.Slots.{tag_at}
use Rattle.aa_table.proofs.table.drain.taken_from.Given as goal

-- earlier slots are free
abbrev pub invariant-each : goal.invariant-each
invariant-each l = (s : ℕ) → l.from ≤ s → s < l.slot → tag_at l.tags s ≡ 0
