use Rattle.std.proofs.Common.{ap, ◌∙◌}
use Rattle.std.specs.Hash as fed
use Rattle.std_collections.proofs.SetKeys.{hashed_keys}
use Rattle.aa_ordered_set.specs.Sets.{SetView}
use Rattle.aa_ordered_set.proofs.compare.OrderedSetHash.hash.Goals as goal

pub returns : goal.returns
returns g c =
    let input = g.T.Hash.hash_input in
    fed.fed_along _ _ _ (hashed_keys input c.self.inside.map.entries ∙ ap (λ (s : SetView _). fed.slice input s.elements) c.self.view_is) c.hash.ensures
