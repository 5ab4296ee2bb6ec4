use Rattle.std.proofs.Common.{sym, ◌∙◌}
use Rattle.aa_table.proofs.Remaining.{goes-last, take-last, take-last-is}
use Rattle.aa_table.proofs.iter.IntoIterDoubleEndedIterator.next_back.Goals as goal

pub invariant_of-self : goal.invariant_of-self
invariant_of-self g c =
    let at = c.in_ok-slot.ensures in
    take-last-is c.self.invariant c.in_ok-slot.slot c.take.result c.tags_in.ensures (λ i. (c.take.ensures.after i).places) at.some.0 at.some.1 c.take.ensures.value at.last

pub returns-clause-steps : goal.returns-clause-steps
returns-clause-steps g c =
    let at = c.in_ok-slot.ensures in
    sym c.self.view_is ∙ take-last c.self.invariant c.in_ok-slot.slot c.take.result c.tags_in.ensures (λ i. (c.take.ensures.after i).places) at.some.0 at.some.1 c.take.ensures.value at.last

pub returns-clause-goes : goal.returns-clause-goes
returns-clause-goes g c =
    let at = c.in_ok-slot.ensures in
    goes-last c.take.result _ (sym c.self.view_is ∙ take-last c.self.invariant c.in_ok-slot.slot c.take.result c.tags_in.ensures (λ i. (c.take.ensures.after i).places) at.some.0 at.some.1 c.take.ensures.value at.last)
