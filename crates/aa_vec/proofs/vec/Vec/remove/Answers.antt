use Rattle.aa_vec.proofs.{arith, at_positions, few-removed, length-run, rules, ◌<◌}
use Rattle.aa_vec.proofs.vec.Vec.remove.Goals as goal

pub invariant_of-self : goal.invariant_of-self
invariant_of-self g c =
    let v = c.self.inside in let within = rw (← c.self.view_is) at c.requires in
    let below : c.args.index
    < v.len = omega (arith, within, length-run v.block.places 0 v.len c.self.invariant.filled)
    in
    record {
      filled = search (rules, at_positions);
      few = rw (c.move_run.ensures, c.take-value.ensures.after)
          (few-removed _ v.len _ _ c.self.invariant.few c.args.index _ _ (omega (arith, below))
          (omega (arith, below)) (omega (arith, c.self.invariant.filled.0)));
    }
