use Rattle.aa_vec.proofs.DrainLemmas.{range_drains, range_held}
use Rattle.aa_vec.proofs.vec.Vec.drain.Goals as goal

pub invariant_of-result-clause-held : goal.invariant_of-result-clause-held
invariant_of-result-clause-held g c = let t = c.set_tail-total.ensures in
    range_held _ c.bounds_of-start.ensures c.requires.range t.count t.tail_set

pub returns-clause-drained : goal.returns-clause-drained
returns-clause-drained g c = let t = c.set_tail-total.ensures in
    range_drains _ c.bounds_of-start.ensures c.requires.range t.count t.tail_set c.args.self _ _
