use Rattle.std.proofs.Common.{◌≤◌}
use Rattle.aa_slots.specs.Inside.{AreFree}
use Rattle.aa_slots.proofs.slots.last_held.Given as goal

-- only free slots were passed over
abbrev pub invariant-each : goal.invariant-each
invariant-each l = (l.past ≤ l.fn.end) × AreFree l.slots l.past l.fn.end

abbrev pub decreases-each : goal.decreases-each
decreases-each l = l.past
