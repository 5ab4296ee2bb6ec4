use Rattle.aa_table.specs.Draining.{drain_remaining}
use Rattle.aa_table.proofs.Draining.{drain-goes}
use Rattle.aa_table.proofs.table.drain.DrainIterator.next.Goals as goal

pub returns-clause-goes : goal.returns-clause-goes
returns-clause-goes g c = drain-goes drain_remaining _ _ c.take_next.result c.take_next.ensures.taken
