use Rattle.aa_gap.proofs.gap_buffer.GapBuffer.from_iter_in.Goals as goal

pub returns-in-Err-clause-error : goal.returns-in-Err-clause-error
returns-in-Err-clause-error g c = let f = c.in-Err.ensures.failed in
    (f.0, c.extend.new.self, f.1, rw c.new_in-text.ensures at f.2)

pub returns-in-Ok-clause-runs : goal.returns-in-Ok-clause-runs
returns-in-Ok-clause-runs g c = let f = c.in-Ok.ensures.runs in
    (f.0, f.1, rw c.new_in-text.ensures at f.2)
