use Rattle.aa_raw.proofs.{AreParted-made, refl}
use Rattle.aa_raw.proofs.raw_vec.RawVec.try_reserve_parted.Goals as goal

pub returns-then-grow_runs-clause-parted : goal.returns-then-grow_runs-clause-parted
returns-then-grow_runs-clause-parted g c full =
    AreParted-made _ c.args.self.now c.args.first c.args.second c.args.additional _
    c.grow_runs.new.self full c.requires.first c.requires.second (c.if-grow_runs.ensures.grown refl)
