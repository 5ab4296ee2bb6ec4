use Rattle.aa_vec.proofs.{CallableAtPairMut, CalledAtPairMut, HasChained, ◌-◌}
use Rattle.aa_vec.proofs.vec.dedup.distinct_run.Given as goal

abbrev pub invariant-each : goal.invariant-each
invariant-each g l = HasChained (CalledAtPairMut g.F.FnMut) (CallableAtPairMut g.F.FnMut) l.fn.same
    l.fn.elements l.kept l.same l.elements

abbrev pub decreases-each : goal.decreases-each
decreases-each g l = l.last - l.kept
