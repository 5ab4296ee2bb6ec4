use Rattle.aa_heap.proofs.Heaps.{taken-in}
use Rattle.aa_heap.proofs.heap.traits.HeapExtend.extend.Goals as goal

pub invariant_of-self : goal.invariant_of-self
invariant_of-self g c =
    let done = c.extend-added.ensures.extended in
    taken-in g.met.T.Ord.total c.self.inside.vec.items done.1 c.extend-added.new.self.items
    c.take_in.new.vec.items
    c.len-start.result c.len-start.ensures.count done.3.items c.take_in.ensures.restored
    c.self.invariant

pub returns-clause-extended : goal.returns-clause-extended
returns-clause-extended g c =
    let done = c.extend-added.ensures.extended in rw (← c.self.view_is) (
      done.0,
      done.1,
      done.2,
      record {
        vec = c.extend-added.new.self;
        extended = done.3;
        reordered =
            c.take_in.ensures.reordered;
        order = invariant_of-self g c;
      },
      done.4,
    )
