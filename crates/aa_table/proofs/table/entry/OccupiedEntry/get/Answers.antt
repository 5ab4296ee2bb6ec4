use Rattle.std.proofs.Common.{ap, ◌∙◌}
use Rattle.std.specs.Option.{option_map}
use Rattle.aa_table.proofs.Placed.{value-of}
use Rattle.aa_table.proofs.table.entry.OccupiedEntry.get.Goals as goal

pub returns : goal.returns
returns g c =
    value-of (g.K.PartialEq.eq c.args.self.now.key) c.args.self.now.table.now.entries ∙ ap (option_map (λ (e : _ × _). e.1)) c.stored.ensures
