use Rattle.aa_ordered.proofs.Sound.{no-entries}
use Rattle.aa_ordered.proofs.map.OrderedMap.clear.Goals as goal

pub invariant_of-self : goal.invariant_of-self
invariant_of-self g c = rw c.clear.ensures (no-entries g.K.Ord.cmp c.self.inside.leaves.room c.self.inside.leaves.resizes)
