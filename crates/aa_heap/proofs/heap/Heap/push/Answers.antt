use Rattle.std.proofs.Common.{ap, arith, ◌∷◌}
use Rattle.std_alloc.proofs.Permutation.{as_long}
use Rattle.aa_heap.proofs.Heaps.{pushed-heap, pushed-items}
use Rattle.aa_heap.proofs.heap.Heap.push.Goals as goal

pub invariant_of-self-2 : goal.invariant_of-self-2
invariant_of-self-2 g c =
    let done = c.sift_up.ensures in
    pushed-heap g.met.T.Ord.total c.self.inside.vec.items c.push.new.self.items
    c.sift_up.new.vec.items c.args.item
    c.len-at.result c.len-at.ensures.count (ap (λ v. v.items) c.in_default.ensures.pushed)
    done.reordered.items
    done.sifted c.self.invariant

pub returns-clause-items : goal.returns-clause-items
returns-clause-items g c =
    rw (← c.self.view_is)
    (pushed-items c.self.inside.vec.items c.push.new.self.items c.sift_up.new.vec.items
    c.args.item
    (ap (λ v. v.items) c.in_default.ensures.pushed) c.sift_up.ensures.reordered.items)

pub returns-clause-order : goal.returns-clause-order
returns-clause-order g c = invariant_of-self-2 g c

pub returns-clause-count : goal.returns-clause-count
returns-clause-count g c =
    rw (← c.self.view_is)
    (let long = as_long (c.args.item ∷ c.self.inside.vec.items) c.sift_up.new.vec.items
    (pushed-items c.self.inside.vec.items c.push.new.self.items c.sift_up.new.vec.items c.args.item
    (ap (λ v. v.items) c.in_default.ensures.pushed) c.sift_up.ensures.reordered.items) in omega arith)
