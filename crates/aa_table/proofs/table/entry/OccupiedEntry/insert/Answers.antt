use Rattle.aa_table.proofs.Entries.{still-there}
use Rattle.aa_table.proofs.table.entry.OccupiedEntry.insert.Goals as goal

pub invariant_of-self : goal.invariant_of-self
invariant_of-self g c = record {
  present = still-there g.K.PartialEq.eq c.args.self.now.table.now.entries c.args.self.now.key c.replace.new.dest c.args.self.now.present;
}
