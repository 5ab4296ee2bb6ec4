use Rattle.aa_slots.proofs.Extracting.{retained-along}
use Rattle.aa_slots.proofs.map.SlotMap.extract_if.Goals as goal

pub returns-clause-retained : goal.returns-clause-retained
returns-clause-retained g c = λ xs later run.
    rw c.extract_by.ensures.remaining at
    (retained-along (goal.F-step g) _ xs later c.extract_by.ensures.kept run)
