use Rattle.std.proofs.Common.{rules}
use Rattle.aa_vec.proofs.vec.Vec.append.Goals as goal

pub returns-in-Err-clause-other_unchanged : goal.returns-in-Err-clause-other_unchanged
returns-in-Err-clause-other_unchanged g c = search rules
