use Rattle.std.proofs.Common.{ap, arith, ◌∷◌}
use Rattle.std_alloc.proofs.Permutation.{as_long}
use Rattle.aa_heap.proofs.Heaps.{popped-above, popped-heap, popped-items}
use Rattle.aa_heap.proofs.heap.Heap.pop.Goals as goal

pub invariant_of-self : goal.invariant_of-self
invariant_of-self g c =
    let took = c.swap_remove-greatest in let done = c.sift_to_bottom.ensures in
    (popped-heap g.met.T.Ord.total c.self.inside.vec.items took.new.self.items
    c.sift_to_bottom.new.vec.items took.result
    took.ensures.value (ap (λ v. v.items) took.ensures.removed) done.reordered.items done.restored
    c.self.invariant).0

pub returns-clause-greatest : goal.returns-clause-greatest
returns-clause-greatest g c =
    let took = c.swap_remove-greatest in let done = c.sift_to_bottom.ensures in
    rw (← c.self.view_is)
    ((popped-heap g.met.T.Ord.total c.self.inside.vec.items took.new.self.items
    c.sift_to_bottom.new.vec.items took.result
    took.ensures.value (ap (λ v. v.items) took.ensures.removed) done.reordered.items done.restored
    c.self.invariant).1)

pub returns-clause-remaining : goal.returns-clause-remaining
returns-clause-remaining g c =
    let took = c.swap_remove-greatest in let done = c.sift_to_bottom.ensures in
    popped-above g.met.T.Ord.total c.self.inside.vec.items took.new.self.items
    c.sift_to_bottom.new.vec.items took.result
    took.ensures.value (ap (λ v. v.items) took.ensures.removed) done.reordered.items done.restored
    c.self.invariant

pub returns-clause-items : goal.returns-clause-items
returns-clause-items g c =
    let took = c.swap_remove-greatest in
    rw (← c.self.view_is)
    (popped-items c.self.inside.vec.items took.new.self.items c.sift_to_bottom.new.vec.items took.result
    took.ensures.value (ap (λ v. v.items) took.ensures.removed)
    c.sift_to_bottom.ensures.reordered.items)

pub returns-clause-order : goal.returns-clause-order
returns-clause-order g c = invariant_of-self g c

pub returns-clause-count : goal.returns-clause-count
returns-clause-count g c =
    let took = c.swap_remove-greatest in
    rw (← c.self.view_is)
    (let long = as_long c.self.inside.vec.items (took.result ∷ c.sift_to_bottom.new.vec.items)
    (popped-items c.self.inside.vec.items took.new.self.items c.sift_to_bottom.new.vec.items took.result
    took.ensures.value (ap (λ v. v.items) took.ensures.removed) c.sift_to_bottom.ensures.reordered.items) in omega arith)
