use Rattle.aa_vec.proofs.Common.{None, arith, IsRun-set-above, len, length-run, rules, view_of, ◌+◌, ◌-◌, ◌≡◌}
use Rattle.aa_vec.proofs.Gaps.{emptied, there, within}
use Rattle.aa_vec.proofs.Tidy.{few-taken_apart}
use Rattle.aa_vec.proofs.vec.Vec.take_at.Goals as goal

pub invariant_of-self : goal.invariant_of-self
invariant_of-self g c =
    let v = c.self.inside in let front = c.self.invariant.filled in
    let asked = rw (← c.self.view_is) at c.requires in
    let gap = c.args.at - len (view_of v) in
    let place : c.args.at
    ≡ v.len + gap = omega (arith, asked.0, length-run v.block.places 0 v.len front) in
    rw (c.take.ensures.after, place) (record {
      filled = IsRun-set-above v.block.places 0 v.len (v.len + gap) None
          (omega (arith, within v front gap 1 asked.1)) (omega arith) front;
      few = few-taken_apart v.block.places v.len _ _ c.self.invariant.few gap
          (there v front gap 1 asked.1) _ c.add.ensures;
    })

pub returns : goal.returns
returns g c =
    let v = c.self.inside in let asked = rw (← c.self.view_is) at c.requires in
    let place : c.args.at ≡ v.len + (c.args.at - len (view_of v)) =
    omega (arith, asked.0, length-run v.block.places 0 v.len c.self.invariant.filled) in
    search (rules, emptied, place)
