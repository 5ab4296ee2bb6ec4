use Rattle.std.proofs.Common.{sym, ◌∙◌}
use Rattle.aa_table.proofs.Remaining.{goes-last, last-left}
use Rattle.aa_table.proofs.iter.IterDoubleEndedIterator.next_back.Goals as goal

pub returns-clause-goes : goal.returns-clause-goes
returns-clause-goes g c =
    let at = c.in_ok-slot.ensures in
    goes-last c.place-entry.result.now _ (sym c.self.view_is ∙ last-left c.self.invariant c.in_ok-slot.slot c.place-entry.result.now at.some.0 at.some.1 at.last c.place-entry.ensures)
