use Rattle.std.proofs.Common.{ap, ◌∙◌}
use Rattle.std.specs.Option.{option_map}
use Rattle.aa_table.proofs.Placed.{value-of}
use Rattle.aa_table.proofs.table.entry.OccupiedEntry.remove_entry.Goals as goal

pub returns-clause-value : goal.returns-clause-value
returns-clause-value g c =
    value-of (g.K.PartialEq.eq c.args.self.key) c.args.self.table.now.entries ∙ ap (option_map (λ (e : _ × _). e.1)) c.take.ensures.entry
