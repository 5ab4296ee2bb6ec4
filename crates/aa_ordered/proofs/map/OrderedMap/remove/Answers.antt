use Rattle.std.proofs.Common.{ap, option_map, ◌∙◌}
use Rattle.aa_ordered.proofs.Sound.{value-of-entry}
use Rattle.aa_ordered.proofs.map.OrderedMap.remove.Goals as goal

pub returns-in-Some-clause-old : goal.returns-in-Some-clause-old
returns-in-Some-clause-old g c = ap (option_map (λ (e : g.row.K.Denot × g.row.V.Denot). e.1)) c.in-Some.ensures.old ∙ value-of-entry (g.Q.Lookup.order c.args.key) c.args.self.now.entries

pub returns-clause-old : goal.returns-clause-old
returns-clause-old g c = ap (option_map (λ (e : g.row.K.Denot × g.row.V.Denot). e.1)) c.in-None.ensures.old ∙ value-of-entry (g.Q.Lookup.order c.args.key) c.args.self.now.entries
