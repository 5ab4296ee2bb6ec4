use Rattle.aa_vec.proofs.Common.{take, AppendsClones}
use Rattle.aa_vec.proofs.vec.clones.with_prefix.Given as goal

abbrev pub invariant-each : goal.invariant-each
invariant-each g l = AppendsClones g.T.Clone.is_clone l.fn.list (take l.pushed l.source) l.list
