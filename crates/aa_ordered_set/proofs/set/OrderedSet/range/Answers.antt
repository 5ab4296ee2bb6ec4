use Rattle.std.proofs.Common.{ap, ◌∙◌}
use Rattle.std.specs.Prelude.{filter}
use Rattle.std.specs.BTreeMap.Range.{range_contains}
use Rattle.std.specs.Map.{keys_of}
use Rattle.aa_ordered_set.specs.Sets.{SetView}
use Rattle.aa_ordered_set.proofs.Keys.{kept}
use Rattle.aa_ordered_set.proofs.set.OrderedSet.range.Goals as goal

pub returns-clause-between : goal.returns-clause-between
returns-clause-between g c = λ known.
    let inside = range_contains g.T.Ord.cmp (g.R.RangeBounds.start_bound c.args.range) (g.R.RangeBounds.end_bound c.args.range) in
    ap keys_of (c.range.ensures.between known) ∙ kept inside c.self.inside.map.entries ∙ ap (λ (s : SetView _). filter inside s.elements) c.self.view_is
