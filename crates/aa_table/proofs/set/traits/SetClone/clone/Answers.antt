use Rattle.std.proofs.Common.{ap, length, subst, sym, ◌∙◌, ◌≡◌}
use Rattle.std.specs.Prelude.{map}
use Rattle.std.specs.List.{AllZip}
use Rattle.std.proofs.lemmas.List.{length-map}
use Rattle.aa_table.specs.Contents.{fresh_capacity, fresh_resizes}
use Rattle.aa_table.specs.SetContents.{SetView}
use Rattle.aa_table.proofs.Elementwise.{cloned-keys, first-clones}
use Rattle.aa_table.proofs.set.traits.SetClone.clone.Goals as goal

pub returns-in-Ok : goal.returns-in-Ok
returns-in-Ok g c =
    let k = c.in-Ok.ensures.cases in let es = c.self.inside.table.entries in
    let many : length es ≡ length c.args.self.now.elements = sym (length-map es (λ (e : _ × _). e.0)) ∙ ap (λ (s : SetView _ _). length s.elements) c.self.view_is in
    record {
      cases = record {
        clones = map (λ e. e.0) k.clones;
        each = subst (λ xs. AllZip g.T.Clone.is_clone xs (map (λ e. e.0) k.clones)) (ap (λ (s : SetView _ _). s.elements) c.self.view_is) (first-clones g.T.Clone.is_clone _ es k.clones k.each);
        elements = cloned-keys g.T.PartialEq.eq k.clones c.in-Ok.table.entries k.entries;
        capacity = k.capacity ∙ ap fresh_capacity many;
        resizes = k.resizes ∙ ap fresh_resizes many;
        builder = subst (λ s. g.S.Clone.is_clone s c.in-Ok.table.builder) (ap (λ (s : SetView _ _). s.builder) c.self.view_is) k.builder;
      };
    }
