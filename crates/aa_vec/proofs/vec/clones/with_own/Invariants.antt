use Rattle.aa_vec.proofs.Common.{take, drop, AppendsClones}
use Rattle.aa_vec.proofs.vec.clones.with_own.Given as goal

abbrev pub invariant-each : goal.invariant-each
invariant-each g l =
    AppendsClones g.T.Clone.is_clone l.fn.list (take l.pushed (drop l.from l.fn.list.items)) l.list
