use Rattle.aa_slots.proofs.Common.{ap, length-append, rules, sym, ◌∙◌}
use Rattle.aa_slots.proofs.Remaining.{take-last, take-last-is}
use Rattle.aa_slots.proofs.iter_mut.IterMutDoubleEndedIterator.next_back.Goals as goal

pub invariant_of-self : goal.invariant_of-self
invariant_of-self g c =
    let f = c.in_ok-key.ensures in
    take-last-is c.self.invariant c.in_ok-key.key (c.take.result.0.now, c.take.result.1.now) f.within f.held c.take.ensures.value f.last _ c.take.ensures.places

pub returns-clause-steps : goal.returns-clause-steps
returns-clause-steps g c =
    let f = c.in_ok-key.ensures in
    rw c.from.ensures (ap (λ u. u.entries) (sym c.self.view_is)
    ∙ take-last c.self.invariant c.in_ok-key.key (c.take.result.0.now, c.take.result.1.now) f.within f.held c.take.ensures.value f.last _ c.take.ensures.places)

pub returns-clause-goes : goal.returns-clause-goes
returns-clause-goes g c =
    let steps = returns-clause-steps g c in search (rules, length-append)
