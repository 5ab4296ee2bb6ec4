use Rattle.aa_raw.proofs.{None, replicate, with_places, with_run, ◌≡◌}
use Rattle.aa_raw.proofs.raw_vec.RawVec.drop_run.Given as goal

abbrev pub invariant-each : goal.invariant-each
invariant-each g l = l.self
    ≡ with_places l.fn.self
    (with_run l.fn.self.places l.fn.from l.dropped (replicate l.dropped None))
