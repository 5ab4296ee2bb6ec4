use Rattle.std.proofs.Common.{ap}
use Rattle.aa_table.specs.Contents.{TableView}
use Rattle.aa_table.proofs.Extending.{inserts-fresh}
use Rattle.aa_table.proofs.extend.TableFromIteratorTuple2.from_iter.Goals as goal

pub returns-in-Ok-clause-collected : goal.returns-in-Ok-clause-collected
returns-in-Ok-clause-collected g c =
    let e = c.in-Ok.ensures.extended in let new = c.with_hasher_in-table.ensures in
    let fresh = inserts-fresh g.K.PartialEq.eq c.with_hasher_in-table.result c.extend.new.self e.1
    (ap (λ (t : TableView _ _ _). t.entries) new)
    (ap (λ (t : TableView _ _ _). t.capacity) new)
    (ap (λ (t : TableView _ _ _). t.resizes) new) e.3 in
    (e.0, e.1, e.2, e.4, fresh)
