use Rattle.aa_slots.proofs.Common.{length-append, rules, sym, ◌∙◌}
use Rattle.aa_slots.proofs.Remaining.{last-left}
use Rattle.aa_slots.proofs.iter.IterDoubleEndedIterator.next_back.Goals as goal

pub returns-clause-steps : goal.returns-clause-steps
returns-clause-steps g c =
    let f = c.in_ok-key.ensures in
    rw c.from.ensures (sym c.self.view_is ∙ last-left c.self.invariant c.in_ok-key.key c.place-entry.result.now f.within f.held c.place-entry.ensures f.last)

pub returns-clause-goes : goal.returns-clause-goes
returns-clause-goes g c =
    let steps = returns-clause-steps g c in
    search (rules, length-append)
