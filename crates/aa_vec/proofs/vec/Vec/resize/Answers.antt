use Rattle.aa_vec.proofs.Common.{rules}
use Rattle.aa_vec.proofs.CopiesLemmas.{AppendFails-rolled_back}
use Rattle.aa_vec.proofs.vec.Vec.resize.Goals as goal

pub returns-clause-failed : goal.returns-clause-failed
returns-clause-failed g c =
    AppendFails-rolled_back _ _ _ c.try_reserve.new.self _ _ _ (search rules)
    (rw c.len-len.ensures.count at c.fill.ensures.rolled_back c.if-fill.false) (search rules)
    (search rules)
