use Rattle.aa_ring.proofs.ring.Ring.from_iter_in.Goals as goal

pub returns-in-Err-clause-error : goal.returns-in-Err-clause-error
returns-in-Err-clause-error g c =
    let why = c.in-Err.ensures.failed in (
      why.0,
      c.extend.new.self,
      why.1,
      rw c.new_in-ring.ensures at why.2,
    )

pub returns-in-Ok-clause-runs : goal.returns-in-Ok-clause-runs
returns-in-Ok-clause-runs g c =
    let run = c.in-Ok.ensures.runs in (run.0, run.1, rw c.new_in-ring.ensures at run.2)
