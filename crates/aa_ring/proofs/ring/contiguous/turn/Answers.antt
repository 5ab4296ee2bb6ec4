use Rattle.aa_ring.proofs.Rings.{rewritten_run}
use Rattle.aa_ring.proofs.ring.contiguous.turn.Goals as goal

pub returns-clause-filled : goal.returns-clause-filled
returns-clause-filled g c = (rewritten_run _ _ _ _ _ c.requires.0 c.slice_mut.ensures.value c.requires.1 c.rotate.ensures).0

pub returns-clause-capacity : goal.returns-clause-capacity
returns-clause-capacity g c = (rewritten_run _ _ _ _ _ c.requires.0 c.slice_mut.ensures.value c.requires.1 c.rotate.ensures).1
