use Rattle.aa_ordered.proofs.Stored.{inserted-some}
use Rattle.aa_ordered.proofs.entry.OccupiedEntry.insert.Goals as goal

pub invariant_of-self : goal.invariant_of-self
invariant_of-self g c = record {
  present = inserted-some g.K.Ord.cmp g.met.K.Ord.total c.args.self.now.map.now.entries c.args.self.now.key c.replace.new.dest;
}
