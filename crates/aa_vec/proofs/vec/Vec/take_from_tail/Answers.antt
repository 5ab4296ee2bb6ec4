use Rattle.aa_vec.proofs.{IsRun-set-above, None, arith, few-taken_apart, there, within, ◌+◌}
use Rattle.aa_vec.proofs.vec.Vec.take_from_tail.Goals as goal

pub invariant_of-self : goal.invariant_of-self
invariant_of-self g c =
    let v = c.self.inside in let front = c.self.invariant.filled in
    let has_tail = rw (← c.self.view_is) at c.requires in
    rw c.take.ensures.after (record {
      filled = IsRun-set-above v.block.places 0 v.len (v.len + c.args.gap) None
          (omega (arith, within v front c.args.gap 1 has_tail)) (omega arith) front;
      few = few-taken_apart v.block.places v.len _ _ c.self.invariant.few c.args.gap
          (there v front c.args.gap 1 has_tail) _ c.add.ensures;
    })
