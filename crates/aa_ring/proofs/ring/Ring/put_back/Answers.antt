use Rattle.std.proofs.Common.{arith}
use Rattle.aa_ring.proofs.Rings.{has-put_first}
use Rattle.aa_ring.proofs.ring.Ring.put_back.Goals as goal

pub invariant_of-self : goal.invariant_of-self
invariant_of-self g c = rw c.put.ensures (has-put_first _ _ _ _ c.self.invariant c.args.item (omega arith))
