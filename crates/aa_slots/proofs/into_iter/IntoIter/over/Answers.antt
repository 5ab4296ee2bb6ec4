use Rattle.aa_slots.proofs.Common.{ap, length}
use Rattle.aa_slots.proofs.Remaining.{all-are}
use Rattle.aa_slots.proofs.into_iter.IntoIter.over.Goals as goal

pub invariant_of-result : goal.invariant_of-result
invariant_of-result g c =
    rw (ap length c.slots_in-end.ensures) (all-are _ _ _ c.requires.held c.requires.count)
