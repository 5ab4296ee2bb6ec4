use Rattle.aa_vec.proofs.{CallableAtPairMut, CalledAtPairMut, Stage, drop, len, take, ◌-◌, ◌<◌}
use Rattle.aa_vec.proofs.Deduplicating.{Told, May}
use Rattle.aa_vec.proofs.vec.dedup.dedup_owned.Given as goal

abbrev pub invariant-runs : goal.invariant-runs
invariant-runs g l =
    Stage (Told (CalledAtPairMut g.F.FnMut))
    (May (CalledAtPairMut g.F.FnMut) (CallableAtPairMut g.F.FnMut)) l.fn.same
    (take 1 l.fn.list.items) (drop 1 l.fn.list.items) l.fn.list l.same l.list l.at l.end
    × (l.at < l.end → len l.list < l.at)

abbrev pub decreases-runs : goal.decreases-runs
decreases-runs g l = l.end - l.at
