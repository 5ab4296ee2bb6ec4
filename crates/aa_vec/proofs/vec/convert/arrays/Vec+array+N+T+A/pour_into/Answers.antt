use Rattle.aa_vec.proofs.Common.{AreEmpty, arith, none-forgotten_from, subst, take, ◌≡◌}
use Rattle.aa_vec.proofs.vec.convert.arrays.Vec+array+N+T+A.pour_into.Goals as goal

pub drop-block-requires : goal.drop-block-requires
drop-block-requires g c =
    let cs = c.each.block.places in let n = c.self.inside.len in
    let all : c.each.i ≡ n = omega (arith, c.each-test.false, c.each.auto.i-end) in
    rw c.forget_apart.ensures
    (none-forgotten_from cs n (omega (arith, c.each.invariant.filled.0, all))
    (subst (λ k. AreEmpty (take k cs)) all c.each.invariant.emptied))
