use Rattle.aa_vec.proofs.{arith, at_positions, few-swapped, few-taken, length-run, rules, ◌<◌}
use Rattle.aa_vec.proofs.vec.Vec.swap_remove.Goals as goal

pub invariant_of-self : goal.invariant_of-self
invariant_of-self g c =
    let v = c.self.inside in let within = rw (← c.self.view_is) at c.requires in
    let below : c.args.index
    < v.len = omega (arith, within, length-run v.block.places 0 v.len c.self.invariant.filled)
    in
    record {
      filled = search (rules, at_positions);
      few = rw (c.take_slow-value.ensures.after, ← c.if-index-last.true)
          (few-taken _ v.len _ _ c.self.invariant.few c.args.index
          (omega (arith, below, c.if-index-last.true)) (omega (arith, c.self.invariant.filled.0)));
    }

pub invariant_of-self-2 : goal.invariant_of-self-2
invariant_of-self-2 g c =
    let v = c.self.inside in let within = rw (← c.self.view_is) at c.requires in
    let below : c.args.index
    < v.len = omega (arith, within, length-run v.block.places 0 v.len c.self.invariant.filled)
    in
    record {
      filled = search (rules, at_positions);
      few = rw (c.move_one.ensures, c.take-value.ensures.after)
          (few-swapped _ v.len _ _ c.self.invariant.few c.args.index _ (omega (arith, below))
          (omega (arith, below, c.if-index-last.false)) (omega (arith, c.self.invariant.filled.0)));
    }
