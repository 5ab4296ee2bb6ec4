use Rattle.aa_slots.specs.Inside.{AreFree}
use Rattle.aa_slots.proofs.slots.first_held.Given as goal

-- only free slots were passed over
abbrev pub invariant-each : goal.invariant-each
invariant-each l = AreFree l.slots l.fn.from l.index
