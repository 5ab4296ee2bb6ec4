use Rattle.aa_vec.proofs.{IsRun-closed, few-lowered, there, within}
use Rattle.aa_vec.proofs.vec.Vec.close_gap.Goals as goal

pub invariant_of-self : goal.invariant_of-self
invariant_of-self g c =
    let v = c.self.inside in let front = c.self.invariant.filled in
    let has_tail = rw (← c.self.view_is) at c.requires in
    let room = within v front c.args.gap c.args.count has_tail in
    rw c.move_down.ensures (record {
      filled = IsRun-closed v.block.places v.len c.args.gap c.args.count has_tail.1 room front;
      few = few-lowered v.block.places v.len _ _ c.self.invariant.few c.args.gap c.args.count room
          (there v front c.args.gap c.args.count has_tail) _ c.add.ensures;
    })
