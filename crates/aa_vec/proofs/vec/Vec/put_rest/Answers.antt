use Rattle.aa_vec.proofs.Common.{arith}
use Rattle.aa_vec.proofs.Replacing.{PutsRest-gathered}
use Rattle.aa_vec.proofs.vec.Vec.put_rest.Goals as goal

pub returns-clause-inserted : goal.returns-clause-inserted
returns-clause-inserted g c = grind (arith, PutsRest-gathered)
