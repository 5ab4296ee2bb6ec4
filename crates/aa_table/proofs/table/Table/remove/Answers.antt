use Rattle.std.proofs.Common.{ap, sym, ◌∙◌}
use Rattle.std.specs.Option.{option_map}
use Rattle.aa_table.proofs.Placed.{value-of}
use Rattle.aa_table.proofs.table.Table.remove.Goals as goal

pub returns-in-Some-clause-old : goal.returns-in-Some-clause-old
returns-in-Some-clause-old g c =
    ap (option_map (λ (e : _ × _). e.1)) (sym c.in-Some.is ∙ c.remove_entry.ensures.old) ∙ sym (value-of (g.Q.Lookup.matches c.args.key) c.args.self.now.entries)

pub returns-in-None-clause-old : goal.returns-in-None-clause-old
returns-in-None-clause-old g c =
    ap (option_map (λ (e : _ × _). e.1)) (sym c.in-None.is ∙ c.remove_entry.ensures.old) ∙ sym (value-of (g.Q.Lookup.matches c.args.key) c.args.self.now.entries)
