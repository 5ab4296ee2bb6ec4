use Rattle.aa_vec.proofs.ExtractLemmas.{range_extracts}
use Rattle.aa_vec.proofs.vec.Vec.extract_by.Goals as goal

pub returns-clause-taken : goal.returns-clause-taken
returns-clause-taken g c = let t = c.set_tail-total.ensures in
    range_extracts _ c.bounds_of-start.ensures c.requires.range t.count t.tail_set c.args.self _ _
