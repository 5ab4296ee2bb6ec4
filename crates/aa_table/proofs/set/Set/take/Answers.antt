use Rattle.std.proofs.Common.{ap, sym, ◌∙◌}
use Rattle.std.specs.Prelude.{find}
use Rattle.std.specs.Option.{option_map}
use Rattle.aa_table.specs.SetContents.{SetView}
use Rattle.aa_table.proofs.Elements.{found}
use Rattle.aa_table.proofs.set.Set.take.Goals as goal

pub returns-in_default-clause-found : goal.returns-in_default-clause-found
returns-in_default-clause-found g c =
    ap (option_map (λ (e : _ × _). e.0)) (sym c.in_default.is ∙ c.remove_entry.ensures.old)
    ∙ found (g.Q.Lookup.matches c.args.value) c.self.inside.table.entries ∙ ap (λ (s : SetView _ _). find (g.Q.Lookup.matches c.args.value) s.elements) c.self.view_is

pub returns-clause-found : goal.returns-clause-found
returns-clause-found g c =
    ap (option_map (λ (e : _ × _). e.0)) (sym c.in-Some.is ∙ c.remove_entry.ensures.old)
    ∙ found (g.Q.Lookup.matches c.args.value) c.self.inside.table.entries ∙ ap (λ (s : SetView _ _). find (g.Q.Lookup.matches c.args.value) s.elements) c.self.view_is
