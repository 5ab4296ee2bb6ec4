use Rattle.std.proofs.Common.{ap, ◌∙◌}
use Rattle.std.specs.Prelude.{find}
use Rattle.std.specs.BTreeMap.{is_at}
use Rattle.std.specs.Option.{option_map}
use Rattle.aa_ordered_set.specs.Sets.{SetView}
use Rattle.aa_ordered_set.proofs.Keys.{found}
use Rattle.aa_ordered_set.proofs.set.OrderedSet.get.Goals as goal

pub returns-in-Some : goal.returns-in-Some
returns-in-Some g c =
    let test = is_at (g.Q.Lookup.order c.args.value) in
    ap (option_map (λ (e : _ × _). e.0)) c.in-Some.ensures ∙ found test c.self.inside.map.entries ∙ ap (λ (s : SetView _). find test s.elements) c.self.view_is

pub returns-in-None : goal.returns-in-None
returns-in-None g c =
    let test = is_at (g.Q.Lookup.order c.args.value) in
    ap (option_map (λ (e : _ × _). e.0)) c.in-None.ensures ∙ found test c.self.inside.map.entries ∙ ap (λ (s : SetView _). find test s.elements) c.self.view_is
