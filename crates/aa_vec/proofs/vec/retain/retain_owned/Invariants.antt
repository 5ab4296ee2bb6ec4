use Rattle.aa_vec.proofs.{CallableAtMut, CalledAtMut, Stage, [], len, ◌-◌, ◌<◌}
use Rattle.aa_vec.proofs.Retaining.{Told, May}
use Rattle.aa_vec.proofs.vec.retain.retain_owned.Given as goal

abbrev pub invariant-runs : goal.invariant-runs
invariant-runs g l =
    Stage (Told (CalledAtMut g.F.FnMut)) (May (CalledAtMut g.F.FnMut) (CallableAtMut g.F.FnMut))
    l.fn.keep [] l.fn.list.items l.fn.list l.keep l.list l.at l.end
    × (l.at < l.end → len l.list < l.at)

abbrev pub decreases-runs : goal.decreases-runs
decreases-runs g l = l.end - l.at
