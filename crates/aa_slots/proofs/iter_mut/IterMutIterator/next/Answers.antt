use Rattle.aa_slots.proofs.Common.{ap, arith, length, sym, ◌∙◌}
use Rattle.aa_slots.proofs.Remaining.{take-next, take-next-is}
use Rattle.aa_slots.proofs.iter_mut.IterMutIterator.next.Goals as goal

pub invariant_of-self : goal.invariant_of-self
invariant_of-self g c =
    let f = c.in_ok-key.ensures in
    take-next-is c.self.invariant c.in_ok-key.key (c.take.result.0.now, c.take.result.1.now) f.within f.held c.take.ensures.value f.first _ c.take.ensures.places

pub returns-clause-steps : goal.returns-clause-steps
returns-clause-steps g c =
    let f = c.in_ok-key.ensures in
    rw c.from.ensures (ap (λ u. u.entries) (sym c.self.view_is)
    ∙ take-next c.self.invariant c.in_ok-key.key (c.take.result.0.now, c.take.result.1.now) f.within f.held c.take.ensures.value f.first _ c.take.ensures.places)

pub returns-clause-goes : goal.returns-clause-goes
returns-clause-goes g c =
    let one_less = ap length (returns-clause-steps g c) in
    record { on = λ h. (tt, tt, omega (arith, one_less)); keeps = tt; rests = λ h. tt }
