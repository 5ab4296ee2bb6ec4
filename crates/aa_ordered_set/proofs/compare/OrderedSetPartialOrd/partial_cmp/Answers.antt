use Rattle.std.proofs.Common.{◌∙◌}
use Rattle.std.specs.Cmp.Lexicographic.{slice_partial_cmp}
use Rattle.std_collections.proofs.SetKeys.{partial_cmp_keys}
use Rattle.aa_ordered_set.proofs.compare.OrderedSetPartialOrd.partial_cmp.Goals as goal

pub returns : goal.returns
returns g c =
    let cmp = g.T.PartialOrd.partial_cmp in
    c.partial_cmp.ensures ∙ partial_cmp_keys cmp c.self.inside.map.entries c.other.inside.map.entries ∙ (λ i. slice_partial_cmp cmp (c.self.view_is i).elements (c.other.view_is i).elements)
