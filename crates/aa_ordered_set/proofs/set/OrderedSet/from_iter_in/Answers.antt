use Rattle.std.proofs.Common.{subst}
use Rattle.aa_ordered_set.specs.Sets.{InsertsElements, SetView}
use Rattle.aa_ordered_set.proofs.Sets.{elements-few}
use Rattle.aa_ordered_set.proofs.set.OrderedSet.from_iter_in.Goals as goal

pub returns-in-Err-clause-failed : goal.returns-in-Err-clause-failed
returns-in-Err-clause-failed g c =
    let e = c.in-Err.ensures.extended in let set = c.extend.new.self in
    let inserted = subst (λ (s : SetView g.row.T.Denot). InsertsElements g.T.Ord.cmp s e.1 set) c.new_in-set.ensures e.3 in
    (set, (e.0, e.1, e.2, inserted, e.4), c.in-Err.ensures.error)

pub returns-in-Ok-clause-collected : goal.returns-in-Ok-clause-collected
returns-in-Ok-clause-collected g c =
    let e = c.in-Ok.ensures.extended in let set = c.extend.new.self in
    (e.0, e.1, e.2, e.4, subst (λ (s : SetView g.row.T.Denot). InsertsElements g.T.Ord.cmp s e.1 set) c.new_in-set.ensures e.3)

pub returns-in-Ok-clause-few : goal.returns-in-Ok-clause-few
returns-in-Ok-clause-few g c =
    let all = returns-in-Ok-clause-collected g c in elements-few g.T.Ord.cmp c.extend.new.self all.1 all.4
