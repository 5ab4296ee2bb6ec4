use Rattle.aa_vec.proofs.{IsRun-closed, arith, becomes, closed, few-lowered, fewer, moved-by_one, rules, there, within}
use Rattle.aa_vec.proofs.vec.Vec.close_gap_by_one.Goals as goal

pub invariant_of-self : goal.invariant_of-self
invariant_of-self g c =
    let v = c.self.inside in let front = c.self.invariant.filled in
    let has_tail = (rw (← c.self.view_is) at c.requires).has_tail in
    let room = within v front c.args.gap 1 has_tail in
    rw (moved-by_one v.block v.len c.args.gap c.requires.some
    (omega (arith, room)) c.take-item.ensures.value c.take-item.ensures.after c.put.ensures)
    (record {
      filled = IsRun-closed v.block.places v.len c.args.gap 1 has_tail.1 room front;
      few = few-lowered v.block.places v.len _ _ c.self.invariant.few c.args.gap 1 room
          (there v front c.args.gap 1 has_tail) _ c.add.ensures;
    })

pub returns : goal.returns
returns g c =
    let v = c.self.inside in let has_tail = (rw (← c.self.view_is) at c.requires).has_tail in
    let room = within v c.self.invariant.filled c.args.gap 1 has_tail in
    let is = moved-by_one v.block v.len c.args.gap c.requires.some
    (omega (arith, room)) c.take-item.ensures.value c.take-item.ensures.after c.put.ensures in
    search (rules, is, closed, becomes, fewer)
