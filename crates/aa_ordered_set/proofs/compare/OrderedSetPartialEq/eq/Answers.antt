use Rattle.std.proofs.Common.{◌∙◌}
use Rattle.std.specs.Cmp.Lexicographic.{pointwise}
use Rattle.std_collections.proofs.SetKeys.{eq_keys}
use Rattle.aa_ordered_set.proofs.compare.OrderedSetPartialEq.eq.Goals as goal

pub returns : goal.returns
returns g c =
    let eq = g.T.PartialEq.eq in
    c.eq.ensures ∙ eq_keys eq c.self.inside.map.entries c.other.inside.map.entries ∙ (λ i. pointwise eq (c.self.view_is i).elements (c.other.view_is i).elements)
