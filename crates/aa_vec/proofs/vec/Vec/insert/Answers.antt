use Rattle.aa_vec.proofs.{at_positions, few-inserted, few-reserve, rules}
use Rattle.aa_vec.proofs.vec.Vec.insert.Goals as goal

pub invariant_of-self-2 : goal.invariant_of-self-2
invariant_of-self-2 g c =
    let few = few-reserve _ _ _ _ _ _ _ _ _ c.reserve_for_push.ensures c.self.invariant.filled
    c.self.invariant.few in
    record {
      filled = search (rules, at_positions);
      few =
          rw (c.put.ensures, c.move_run.ensures)
          (few-inserted _ _ _ _ few _ _ _ (search (rules, at_positions))
          (search (rules, at_positions)));
    }
