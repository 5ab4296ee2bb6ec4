use Rattle.std.proofs.Common.{[], ap, subst, ◌∙◌}
use Rattle.std.specs.List.{AllZip}
use Rattle.std.specs.Map.{keys_of}
use Rattle.aa_ordered.specs.Capacity.{fresh_resizes}
use Rattle.aa_ordered_set.specs.Sets.{SetView}
use Rattle.aa_ordered_set.proofs.Keys.{first-clones}
use Rattle.aa_ordered_set.proofs.Sets.{all-inserted, seen-count}
use Rattle.aa_ordered_set.proofs.traits.OrderedSetClone.clone.Goals as goal

pub returns-in-Ok : goal.returns-in-Ok
returns-in-Ok g c =
    let k = c.in-Ok.ensures.cases in let es = c.self.inside.map.entries in let cmp = g.T.Ord.cmp in
    record {
      cases = record {
        clones = keys_of k.clones;
        each = subst (λ xs. AllZip g.T.Clone.is_clone xs (keys_of k.clones)) (ap (λ (s : SetView _). s.elements) c.self.view_is) (first-clones g.T.Clone.is_clone _ es k.clones k.each);
        elements = ap keys_of k.entries ∙ all-inserted cmp [] k.clones;
        same = λ s. ap keys_of (k.same s);
        resizes = k.resizes ∙ ap fresh_resizes (seen-count c.self.inside.map c.args.self.now c.self.view_is);
      };
    }
