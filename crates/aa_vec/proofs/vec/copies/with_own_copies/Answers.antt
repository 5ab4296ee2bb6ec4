use Rattle.aa_vec.proofs.Common.{arith, common_steps}
use Rattle.aa_vec.proofs.vec.copies.with_own_copies.Goals as goal

pub each-preserved : goal.each-preserved
each-preserved g c = (grind (arith, common_steps), grind (arith, common_steps))
