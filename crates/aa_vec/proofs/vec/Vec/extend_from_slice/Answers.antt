use Rattle.std.proofs.Common.{rules}
use Rattle.aa_vec.proofs.Becoming.{became}
use Rattle.aa_vec.proofs.vec.Vec.extend_from_slice.Goals as goal

pub returns-clause-failed : goal.returns-clause-failed
returns-clause-failed g c = search (rules, became)
