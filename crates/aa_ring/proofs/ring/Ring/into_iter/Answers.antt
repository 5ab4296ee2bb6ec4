use Rattle.aa_ring.proofs.Showing.{given-in_order, given-in_reverse}
use Rattle.aa_ring.proofs.ring.Ring.into_iter.Goals as goal

pub returns-clause-in_order : goal.returns-clause-in_order
returns-clause-in_order g c = given-in_order

pub returns-clause-in_reverse : goal.returns-clause-in_reverse
returns-clause-in_reverse g c = given-in_reverse
