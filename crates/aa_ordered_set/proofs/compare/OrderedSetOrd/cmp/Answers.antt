use Rattle.std.proofs.Common.{◌∙◌}
use Rattle.std.specs.Cmp.Lexicographic.{slice_cmp}
use Rattle.std_collections.proofs.SetKeys.{cmp_keys}
use Rattle.aa_ordered_set.proofs.compare.OrderedSetOrd.cmp.Goals as goal

pub returns : goal.returns
returns g c =
    let cmp = g.T.Ord.cmp in
    c.cmp.ensures ∙ cmp_keys cmp c.self.inside.map.entries c.other.inside.map.entries ∙ (λ i. slice_cmp cmp (c.self.view_is i).elements (c.other.view_is i).elements)
