use Rattle.std.proofs.Common.{ap, ◌∙◌}
use Rattle.std.specs.Prelude.{find}
use Rattle.std.specs.Option.{option_map}
use Rattle.aa_table.specs.SetContents.{SetView}
use Rattle.aa_table.proofs.Elements.{found}
use Rattle.aa_table.proofs.set.Set.get.Goals as goal

pub returns-in-Some : goal.returns-in-Some
returns-in-Some g c =
    ap (option_map (λ (e : _ × _). e.0)) (rw c.in-Some.is at c.get_key_value.ensures)
    ∙ found (g.Q.Lookup.matches c.args.value) c.self.inside.table.entries ∙ ap (λ (s : SetView _ _). find (g.Q.Lookup.matches c.args.value) s.elements) c.self.view_is

pub returns-in-None : goal.returns-in-None
returns-in-None g c =
    ap (option_map (λ (e : _ × _). e.0)) (rw c.in-None.is at c.get_key_value.ensures)
    ∙ found (g.Q.Lookup.matches c.args.value) c.self.inside.table.entries ∙ ap (λ (s : SetView _ _). find (g.Q.Lookup.matches c.args.value) s.elements) c.self.view_is
