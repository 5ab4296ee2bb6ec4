use Rattle.std.proofs.Common.{length}
use Rattle.aa_table.proofs.Extending.{inserts-fresh, resizes-few}
use Rattle.aa_table.proofs.extend.Table+K+V+BuildHasherDefault+FoldHasher+A.from_iter_in.Goals as goal

pub returns-in-Err-clause-failed : goal.returns-in-Err-clause-failed
returns-in-Err-clause-failed g c =
    let e = c.in-Err.ensures.extended in let table = c.extend.new.self in
    let new = c.new_in-table.ensures in
    let fresh = inserts-fresh g.K.PartialEq.eq c.new_in-table.result table e.1
    new.entries new.capacity new.resizes e.3 in
    (table, (e.0, e.1, e.2, fresh, e.4), c.in-Err.ensures.error)

pub returns-in-Ok-clause-collected : goal.returns-in-Ok-clause-collected
returns-in-Ok-clause-collected g c =
    let e = c.in-Ok.ensures.extended in let new = c.new_in-table.ensures in
    let fresh = inserts-fresh g.K.PartialEq.eq c.new_in-table.result c.extend.new.self e.1
    new.entries new.capacity new.resizes e.3 in
    (e.0, e.1, e.2, e.4, fresh)

pub returns-in-Ok-clause-runs : goal.returns-in-Ok-clause-runs
returns-in-Ok-clause-runs g c =
    let f = c.in-Ok.ensures.runs in let new = c.new_in-table.ensures in
    let fresh = inserts-fresh g.K.PartialEq.eq c.new_in-table.result c.extend.new.self f.2.0.items
    new.entries new.capacity new.resizes f.2.3 in
    (f.0, f.1, (f.2.0, f.2.1, f.2.2, fresh))

pub returns-in-Ok-clause-few : goal.returns-in-Ok-clause-few
returns-in-Ok-clause-few g c =
    let fresh = (returns-in-Ok-clause-collected g c).4 in
    let table = c.extend.new.self in
    resizes-few table.capacity table.resizes (length table.entries) fresh.growth
