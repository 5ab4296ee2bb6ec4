use Rattle.aa_vec.proofs.{CallableAtMut, CalledAtMut, HasCalled, KeepsWhen, ◌-◌}
use Rattle.aa_vec.proofs.vec.retain.count_kept.Given as goal

abbrev pub invariant-each : goal.invariant-each
invariant-each g l = HasCalled (KeepsWhen l.fn.keep_when (CalledAtMut g.F.FnMut))
    (CallableAtMut g.F.FnMut) l.fn.keep l.fn.elements l.kept l.keep l.elements

abbrev pub decreases-each : goal.decreases-each
decreases-each g l = l.count - l.kept
