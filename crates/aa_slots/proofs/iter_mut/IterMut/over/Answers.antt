use Rattle.aa_slots.proofs.Remaining.{all-are}
use Rattle.aa_slots.proofs.iter_mut.IterMut.over.Goals as goal

pub invariant_of-result : goal.invariant_of-result
invariant_of-result g c = all-are _ _ _ c.requires.held c.requires.count
