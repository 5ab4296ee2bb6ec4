use Rattle.std.proofs.Common.{◌≡◌, ℕ, ◌<◌, ◌≤◌}
use Rattle.aa_table.specs.Slots.{tag_at}
use Rattle.aa_table.proofs.walk.last_of_few.Given as goal

-- none of the slots after has a key
abbrev pub invariant-each : goal.invariant-each
invariant-each l = (i : ℕ) → l.slot ≤ i → i < l.end → tag_at l.tags i ≡ 0
