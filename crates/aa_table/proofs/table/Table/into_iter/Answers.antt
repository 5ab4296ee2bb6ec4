use Rattle.aa_table.proofs.Sound.{all-free, all-held, all-placed, all-whole}
use Rattle.aa_table.proofs.table.Table.into_iter.Goals as goal

pub over-requires-clause-free : goal.over-requires-clause-free
over-requires-clause-free g c = all-free c.self.invariant

pub over-requires-clause-held : goal.over-requires-clause-held
over-requires-clause-held g c = all-held c.self.invariant

pub over-requires-clause-places : goal.over-requires-clause-places
over-requires-clause-places g c = all-placed c.self.invariant

pub over-requires-clause-groups : goal.over-requires-clause-groups
over-requires-clause-groups g c = all-whole c.self.invariant
