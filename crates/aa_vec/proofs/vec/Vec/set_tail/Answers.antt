use Rattle.aa_vec.proofs.{IsRun-front, arith, few-set_apart, length-run, ◌≤◌}
use Rattle.aa_vec.proofs.vec.Vec.set_tail.Goals as goal

pub invariant_of-self : goal.invariant_of-self
invariant_of-self g c =
    let v = c.self.inside in let within = rw (← c.self.view_is) at c.requires in
    let below : c.args.at
    ≤ v.len = omega (arith, within, length-run v.block.places 0 v.len c.self.invariant.filled)
    in
    record {
      filled = IsRun-front v.block.places c.args.at v.len c.self.invariant.filled below;
      few = few-set_apart v.block.places v.len _ _ c.self.invariant.few c.args.at _ below
          c.add.ensures;
    }
