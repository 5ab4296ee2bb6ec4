use Rattle.aa_vec.proofs.ExtendLemmas.{CollectResult-made, CollectResult-fails}
use Rattle.aa_vec.proofs.vec.Vec.from_iter_in_by.Goals as goal

pub returns-in-Ok-clause-collected : goal.returns-in-Ok-clause-collected
returns-in-Ok-clause-collected g c =
    CollectResult-made _ _ _ _ _ _ c.new_in-v.ensures _ _ c.in-Ok.ensures.extended

pub returns-in-Err-clause-collected : goal.returns-in-Err-clause-collected
returns-in-Err-clause-collected g c =
    CollectResult-fails _ _ _ _ _ _ c.new_in-v.ensures _ _ _ c.in-Err.ensures.extended
