use Rattle.std.proofs.Common.{ap}
use Rattle.aa_heap.proofs.Heaps.{none-heap, taken-in}
use Rattle.aa_heap.proofs.heap.Heap.append.Goals as goal

pub invariant_of-self-2 : goal.invariant_of-self-2
invariant_of-self-2 g c =
    taken-in g.met.T.Ord.total c.self.inside.vec.items c.other.inside.vec.items
    c.append.new.self.items
    c.take_in.new.vec.items c.len-start.result c.len-start.ensures.count
    (ap (λ v. v.items) c.in_default.ensures.appended) c.take_in.ensures.restored c.self.invariant

pub invariant_of-other-2 : goal.invariant_of-other-2
invariant_of-other-2 g c =
    none-heap g.T.Ord.cmp c.append.new.other.items (ap (λ v. v.items) c.in_default.ensures.emptied)

pub returns-clause-order : goal.returns-clause-order
returns-clause-order g c = invariant_of-self-2 g c
