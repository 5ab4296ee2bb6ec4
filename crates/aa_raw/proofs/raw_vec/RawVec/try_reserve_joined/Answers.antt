use Rattle.aa_raw.proofs.{AreJoined-made, refl}
use Rattle.aa_raw.proofs.raw_vec.RawVec.try_reserve_joined.Goals as goal

pub returns-then-grow_runs-clause-joined : goal.returns-then-grow_runs-clause-joined
returns-then-grow_runs-clause-joined g c full =
    AreJoined-made _ c.args.self.now c.args.first c.args.second c.args.additional _
    c.grow_runs.new.self full c.requires.first c.requires.second (c.if-grow_runs.ensures.grown refl)
