use Rattle.aa_slots.proofs.Common.{ap, length-append, rules, sym, ◌∙◌}
use Rattle.allocator_api2.specs.Block.{Block}
use Rattle.aa_slots.proofs.Remaining.{take-last, take-last-is}
use Rattle.aa_slots.proofs.into_iter.IntoIterDoubleEndedIterator.next_back.Goals as goal

pub invariant_of-self : goal.invariant_of-self
invariant_of-self g c =
    let key = c.in_ok-key.key in let f = c.in_ok-key.ensures in
    take-last-is c.self.invariant key c.take.result f.within (rw c.slots_in.ensures at f.held) c.take.ensures.value (rw c.slots_in.ensures at f.last) _ (ap (λ (b : Block _ _). b.places) c.take.ensures.after)

pub returns-clause-steps : goal.returns-clause-steps
returns-clause-steps g c =
    let key = c.in_ok-key.key in let f = c.in_ok-key.ensures in
    rw c.from.ensures (sym c.self.view_is ∙ take-last c.self.invariant key c.take.result f.within (rw c.slots_in.ensures at f.held) c.take.ensures.value (rw c.slots_in.ensures at f.last) _ (ap (λ (b : Block _ _). b.places) c.take.ensures.after))

pub returns-clause-goes : goal.returns-clause-goes
returns-clause-goes g c =
    let steps = returns-clause-steps g c in search (rules, length-append)
