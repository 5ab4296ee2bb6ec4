use Rattle.std.proofs.Common.{ap, inr, sym, ◌∙◌}
use Rattle.std.specs.BTreeMap.{is_at}
use Rattle.std.specs.Map.{lookup, set_value}
use Rattle.aa_ordered.specs.Entries.{OrderedView}
use Rattle.aa_ordered.proofs.Found.{gap-value}
use Rattle.aa_ordered.proofs.Reading.{got-value, same-lent, written-map, written-view}
use Rattle.aa_ordered.proofs.map.OrderedMap.get_mut.Goals as goal

pub invariant_of-self-lent : goal.invariant_of-self-lent
invariant_of-self-lent g c w = written-map g.K.Ord.cmp c.self.inside.leaves c.in-Ok.spot.list c.in-Ok.spot.at c.in-Ok.ensures.item c.item_mut.result.now c.item_mut.ensures.value w c.self.inside.len c.self.invariant

pub returns-in-Ok : goal.returns-in-Ok
returns-in-Ok g c =
    let order = g.Q.Lookup.order c.args.key in let spot = c.in-Ok.spot in (
      same-lent _ _ _ (λ w.
          written-view g.K.Ord.cmp c.self.inside.leaves spot.list spot.at c.in-Ok.ensures.item c.item_mut.result.now c.item_mut.ensures.value w order c.in-Ok.ensures.found
          ∙ ap (λ (m : OrderedView g.row.K.Denot g.row.V.Denot). record m { entries = set_value (is_at order) m.entries w }) c.self.view_is),
      record {
        writes_back = tt;
        value = got-value order c.self.inside.leaves.lists spot.list spot.at c.in-Ok.ensures.item c.in-Ok.ensures.found c.item_mut.result.now c.item_mut.ensures.value
            ∙ ap (λ (m : OrderedView g.row.K.Denot g.row.V.Denot). lookup (is_at order) m.entries) c.self.view_is;
      },
    )

pub returns-in-Err : goal.returns-in-Err
returns-in-Err g c = (
  λ i. inr (c.self.view_is i),
  record {
    writes_back = tt;
    value = sym (gap-value (g.Q.Lookup.order c.args.key) _ _ c.in-Err.ensures.absent)
        ∙ ap (λ (m : OrderedView g.row.K.Denot g.row.V.Denot). lookup (is_at (g.Q.Lookup.order c.args.key)) m.entries) c.self.view_is;
  },
)
