use Rattle.aa_heap.proofs.Heaps.{extended-appends, taken-in}
use Rattle.aa_heap.proofs.heap.Heap.extend.Goals as goal

pub invariant_of-self : goal.invariant_of-self
invariant_of-self g c =
    let done = c.extend-added.ensures.extended in
    let added = extended-appends done.0 c.self.inside.vec done.1 c.extend-added.result
    c.extend-added.new.self done.3 in
    taken-in g.met.T.Ord.total c.self.inside.vec.items added.0 c.extend-added.new.self.items
    c.take_in.new.vec.items
    c.len-start.result c.len-start.ensures.count added.1 c.take_in.ensures.restored
    c.self.invariant

pub returns-clause-extended : goal.returns-clause-extended
returns-clause-extended g c =
    let done = c.extend-added.ensures.extended in rw (← c.self.view_is)
    (done.0, done.1, c.extend-added.new.self, done.2, done.3, c.take_in.ensures.reordered)

pub returns-clause-order : goal.returns-clause-order
returns-clause-order g c = invariant_of-self g c
