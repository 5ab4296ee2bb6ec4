use Rattle.aa_vec.proofs.{IsWhole-restored, borrowed-is}
use Rattle.aa_vec.proofs.vec.Vec.count_kept_in_tail.Goals as goal

pub invariant_of-self : goal.invariant_of-self
invariant_of-self g c = let r = rw (← c.self.view_is) at c.requires in
    IsWhole-restored c.self.inside c.self.invariant c.args.gap c.args.count r.has_tail
    c.slice_mut.result.now c.count_kept.new.elements c.slice_mut.ensures.value

pub count_kept-requires-clause-callable : goal.count_kept-requires-clause-callable
count_kept-requires-clause-callable g c =
    let r = rw (← c.self.view_is) at c.requires in
    rw (← borrowed-is c.self.inside c.self.invariant.filled c.args.gap c.args.count r.has_tail
    c.slice_mut.result.now c.slice_mut.result.now c.slice_mut.ensures.value) r.callable
