use Rattle.aa_vec.proofs.{IsRun-cleared, few-cleared, there, within}
use Rattle.aa_vec.proofs.vec.Vec.drop_from_tail.Goals as goal

pub invariant_of-self : goal.invariant_of-self
invariant_of-self g c =
    let v = c.self.inside in let front = c.self.invariant.filled in
    let has_tail = rw (← c.self.view_is) at c.requires in
    let room = within v front c.args.gap c.args.count has_tail in
    rw c.drop_run.ensures (record {
      filled = IsRun-cleared v.block.places v.len c.args.gap c.args.count front room;
      few = few-cleared v.block.places v.len _ _ c.self.invariant.few c.args.gap c.args.count room
          (there v front c.args.gap c.args.count has_tail) _ c.add.ensures;
    })
