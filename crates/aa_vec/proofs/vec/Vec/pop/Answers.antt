use Rattle.aa_vec.proofs.{arith, at_ends, becomes, few-taken, rules}
use Rattle.aa_vec.proofs.vec.Vec.pop.Goals as goal

pub returns-clause-cases : goal.returns-clause-cases
returns-clause-cases g c = search (rules, at_ends, becomes)

pub invariant_of-self : goal.invariant_of-self
invariant_of-self g c = record {
  filled = search (rules, at_ends);
  few = rw c.take.ensures.after
      (few-taken _ _ _ _ c.self.invariant.few _ (omega (arith, c.if-self-eq0.false))
      (omega (arith, c.self.invariant.filled.0)));
}
