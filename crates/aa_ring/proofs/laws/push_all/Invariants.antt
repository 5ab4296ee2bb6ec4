use Rattle.aa_ring.specs.Paid.{IsPaid}
use Rattle.aa_ring.proofs.laws.push_all.Given as goal

abbrev pub invariant-each : goal.invariant-each
invariant-each g l = IsPaid l.i l.ring
