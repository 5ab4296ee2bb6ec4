use Rattle.std.proofs.Common.{◌∙◌, ap, slice_get}
use Rattle.aa_heap.proofs.Heaps.{peeked}
use Rattle.aa_heap.proofs.heap.Heap.peek.Goals as goal

pub returns-clause-greatest : goal.returns-clause-greatest
returns-clause-greatest g c =
    rw (← c.self.view_is) (peeked g.met.T.Ord.total c.self.inside.vec.items c.first.result
    (c.first.ensures.value ∙ ap (λ xs. slice_get xs 0) c.as_slice.ensures) c.self.invariant)
