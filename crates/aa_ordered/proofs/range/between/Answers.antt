use Rattle.std.proofs.Common.{Bor, ap, subst, sym, ◌∙◌}
use Rattle.std.specs.BTreeMap.Range.{is_from_start, is_past_end}
use Rattle.std.specs.List.Sorted.{IsStrictlySortedBy}
use Rattle.std.specs.Map.{keys_of}
use Rattle.std.specs.Prelude.{filter, not}
use Rattle.std.specs.Range.Bound.{bound_map}
use Rattle.aa_ordered.specs.Leaves.{items}
use Rattle.aa_ordered.specs.Ranges.{items_of}
use Rattle.aa_ordered.proofs.Ranging.{filter-filter, sorted-kept}
use Rattle.aa_ordered.proofs.range.between.Goals as goal

pub up_to_end-requires-clause-sorted : goal.up_to_end-requires-clause-sorted
up_to_end-requires-clause-sorted g c =
    let inside = λ (e : g.row.K.Denot × g.row.V.Denot). is_from_start g.K.Ord.cmp (bound_map (λ (x : Bor g.row.K.Denot). x.now) c.args.start) e.0 in
    let from = c.from_start-front.ensures.from ∙ ap (λ ls. filter inside (items_of ls)) c.all-lists.ensures in
    subst (λ es. IsStrictlySortedBy g.K.Ord.cmp (keys_of es)) (sym from) (sorted-kept g.K.Ord.cmp inside (items c.args.leaves.now) c.requires.sorted)

pub returns : goal.returns
returns g c =
    let inside = λ (e : g.row.K.Denot × g.row.V.Denot). is_from_start g.K.Ord.cmp (bound_map (λ (x : Bor g.row.K.Denot). x.now) c.args.start) e.0 in
    let before = λ (e : g.row.K.Denot × g.row.V.Denot). not (is_past_end g.K.Ord.cmp (bound_map (λ (x : Bor g.row.K.Denot). x.now) c.args.end) e.0) in
    let from = c.from_start-front.ensures.from ∙ ap (λ ls. filter inside (items_of ls)) c.all-lists.ensures in
    c.up_to_end.ensures ∙ ap (filter before) from ∙ filter-filter inside before (items c.args.leaves.now)
