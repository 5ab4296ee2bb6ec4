use Rattle.std.proofs.Common.{ap, sym}
use Rattle.aa_table.specs.Contents.{TableView}
use Rattle.aa_table.proofs.table.Table.len.Goals as goal

pub returns-clause-once : goal.returns-clause-once
returns-clause-once g c = rw (sym (ap (λ (f : TableView _ _ _). f.entries) c.self.view_is)) c.self.invariant.once
