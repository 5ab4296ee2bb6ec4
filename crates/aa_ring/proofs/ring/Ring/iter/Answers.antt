use Rattle.std.specs.Map.Iter.{deref}
use Rattle.aa_ring.proofs.Showing.{shown-in_order, shown-in_reverse}
use Rattle.aa_ring.proofs.ring.Ring.iter.Goals as goal

pub returns-clause-in_order : goal.returns-clause-in_order
returns-clause-in_order g c = shown-in_order deref

pub returns-clause-in_reverse : goal.returns-clause-in_reverse
returns-clause-in_reverse g c = shown-in_reverse deref
