use Rattle.aa_vec.proofs.Common.{replicate, take, AppendsClones}
use Rattle.aa_vec.proofs.vec.clones.with_same.Given as goal

abbrev pub invariant-each : goal.invariant-each
invariant-each g l =
    AppendsClones g.T.Clone.is_clone l.fn.list (take l.pushed (replicate l.count l.value)) l.list
