use Rattle.aa_vec.proofs.Tidy.{IsWhole-restored}
use Rattle.aa_vec.proofs.vec.Vec.count_passed.Goals as goal

pub invariant_of-self : goal.invariant_of-self
invariant_of-self g c = let r = rw (← c.self.view_is) at c.requires in
    IsWhole-restored c.self.inside c.self.invariant c.args.gap c.args.count r.has_tail
    c.slice_mut-elements.result.now c.count_kept.new.elements c.slice_mut-elements.ensures.value

pub invariant_of-self-2 : goal.invariant_of-self-2
invariant_of-self-2 g c = let r = rw (← c.self.view_is) at c.requires in
    IsWhole-restored c.self.inside c.self.invariant c.args.gap c.args.count r.has_tail
    c.slice_mut-elements.result.now c.count_kept-2.new.elements c.slice_mut-elements.ensures.value
