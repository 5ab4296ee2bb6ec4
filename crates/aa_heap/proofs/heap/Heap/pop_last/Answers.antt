use Rattle.aa_heap.proofs.Draining.{popped-last}
use Rattle.aa_heap.proofs.heap.Heap.pop_last.Goals as goal

pub invariant_of-self : goal.invariant_of-self
invariant_of-self g c =
    popped-last g.T.Ord.cmp c.pop.result c.self.inside.vec c.pop.new.self c.pop.ensures.cases
    c.pop.ensures.empty c.self.invariant
