use Rattle.std.proofs.Common.{rules, ◌≡◌, ◌<◌}
use Rattle.aa_ring.proofs.Rings.{has-take_last}
use Rattle.aa_ring.proofs.ring.Ring.pop_back.Goals as goal

pub invariant_of-self-2 : goal.invariant_of-self-2
invariant_of-self-2 g c =
    let none : c.self.inside.wrapped ≡ 0 = search rules in
    let some : 0 < c.self.inside.count = search rules in
    rw c.take-2.ensures.after (has-take_last _ _ _ _ c.self.invariant none some)
