use Rattle.aa_vec.proofs.ExtendLemmas.{Extends-ran}
use Rattle.aa_vec.proofs.vec.traits.VecExtend.extend.Goals as goal

pub returns-in-Ok-clause-extended : goal.returns-in-Ok-clause-extended
returns-in-Ok-clause-extended g c = let e = c.in-Ok.ensures.extended in
    let ran = Extends-ran _ _ _ _ _ _ _ _ e.3 in (e.0, ran.0, e.2, ran.1, ran.2)

pub returns-in-Err-clause-extended : goal.returns-in-Err-clause-extended
returns-in-Err-clause-extended g c = let e = c.in-Err.ensures.extended in
    let ran = Extends-ran _ _ _ _ _ _ _ _ e.3 in (e.0, ran.0, e.2, ran.1, ran.2)
