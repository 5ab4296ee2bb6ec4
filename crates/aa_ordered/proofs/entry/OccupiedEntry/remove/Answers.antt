use Rattle.std.proofs.Common.{ap, option_map, sym, ◌∙◌}
use Rattle.aa_ordered.proofs.Sound.{value-of-entry}
use Rattle.aa_ordered.proofs.entry.OccupiedEntry.remove.Goals as goal

pub returns-clause-value : goal.returns-clause-value
returns-clause-value g c =
    sym (value-of-entry (g.K.Ord.cmp c.args.self.key) c.args.self.map.now.entries)
    ∙ ap (option_map (λ (e : g.row.K.Denot × g.row.V.Denot). e.1)) c.remove_entry-key.ensures.entry
