use Rattle.std.proofs.Common.{length, subst}
use Rattle.aa_ordered.specs.Entries.{OrderedView}
use Rattle.aa_ordered.specs.Iterating.{InsertsAll}
use Rattle.aa_ordered.proofs.Growing.{resizes-few}
use Rattle.aa_ordered.proofs.map.OrderedMap.from_iter_in.Goals as goal

pub returns-in-Err-clause-failed : goal.returns-in-Err-clause-failed
returns-in-Err-clause-failed g c =
    let e = c.in-Err.ensures.extended in let map = c.extend.new.self in
    let inserted = subst (λ (m : OrderedView g.row.K.Denot g.row.V.Denot). InsertsAll g.K.Ord.cmp m e.1 map) c.new_in-map.ensures e.3 in
    (map, (e.0, e.1, e.2, inserted, e.4), c.in-Err.ensures.error)

pub returns-in-Ok-clause-collected : goal.returns-in-Ok-clause-collected
returns-in-Ok-clause-collected g c =
    let e = c.in-Ok.ensures.extended in let map = c.extend.new.self in
    (e.0, e.1, e.2, e.4, subst (λ (m : OrderedView g.row.K.Denot g.row.V.Denot). InsertsAll g.K.Ord.cmp m e.1 map) c.new_in-map.ensures e.3)

pub returns-in-Ok-clause-few : goal.returns-in-Ok-clause-few
returns-in-Ok-clause-few g c =
    let all = (returns-in-Ok-clause-collected g c).4 in let map = c.extend.new.self in
    resizes-few map.capacity map.resizes (length map.entries) all.few all.most
