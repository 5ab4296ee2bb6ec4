use Rattle.aa_vec.proofs.Common.{CalledAtMut, CallableAtMut}
use Rattle.aa_vec.proofs.ExtractRuns.{extracts_progress}
use Rattle.aa_vec.proofs.vec.extract_if.ExtractIfIterator.next.Goals as goal

pub returns-clause-goes : goal.returns-clause-goes
returns-clause-goes g c =
    extracts_progress (CalledAtMut g.F.FnMut) (CallableAtMut g.F.FnMut) c.args.self.now _
    c.next_by.result c.next_by.ensures c.requires
