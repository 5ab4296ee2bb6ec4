use Rattle.aa_gap.proofs.{type_size}
use denote.Param.{param}
use Rattle.aa_gap.proofs.Extending.{extended-front}
use Rattle.aa_gap.proofs.gap_buffer.many.GapBufferExtend.extend.Goals as goal

pub returns-in-Err-clause-extended : goal.returns-in-Err-clause-extended
returns-in-Err-clause-extended g c =
    let it = g.U.IntoIter.Iterator in let f = c.in-Err.ensures.failed in
    let part = extended-front it.next_gives (type_size (param 0 g.row.T)) f.0 c.args.self.now
    c.extend.new.self _ it.remaining f.2 in
    (f.0, part.0, f.1, part.1, part.2)
