use Rattle.aa_ordered.proofs.Sound.{no-entries}
use Rattle.aa_ordered.proofs.map.OrderedMap.try_new_in.Goals as goal

pub invariant_of-result : goal.invariant_of-result
invariant_of-result g c = rw c.new_in-leaves.ensures (no-entries g.K.Ord.cmp 0 0)
