use Rattle.aa_vec.proofs.{at_ends, few-put, few-reserve, rules}
use Rattle.aa_raw.proofs.Calls.{with_room}
use Rattle.aa_vec.proofs.vec.Vec.push.Goals as goal

pub invariant_of-self-2 : goal.invariant_of-self-2
invariant_of-self-2 g c =
    record {
      filled = search (rules, at_ends, with_room);
      few =
          rw c.put.ensures
          (few-put _ _ _ _
          (few-reserve _ _ _ _ _ _ _ _ _ c.reserve_for_push.ensures c.self.invariant.filled
          c.self.invariant.few) _);
    }
