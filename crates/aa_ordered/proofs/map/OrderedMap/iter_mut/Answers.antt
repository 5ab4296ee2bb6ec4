use Rattle.std.proofs.Common.{ap, length, refl, sym, ◌∙◌}
use Rattle.aa_ordered.specs.Entries.{OrderedView}
use Rattle.aa_ordered.proofs.Lending.{starts-lending, starts-view}
use Rattle.aa_ordered.proofs.Revalued.{keys-kept, length-kept}
use Rattle.aa_ordered.proofs.map.OrderedMap.iter_mut.Goals as goal

pub invariant_of-result : goal.invariant_of-result
invariant_of-result g c =
    let lent = rw (sym c.as_slice.ensures) at c.lend-used.ensures.lent in
    starts-lending lent c.self.inside.leaves.room c.self.inside.len c.prove_bounds.ensures.room
    (ap (λ (v : OrderedView g.row.K.Denot g.row.V.Denot). v.capacity) c.self.view_is)
    (c.self.invariant.count
    ∙ ap (λ (v : OrderedView g.row.K.Denot g.row.V.Denot). length v.entries) c.self.view_is)

pub returns : goal.returns
returns g c =
    let es = c.args.self.now.entries in
    let lent = rw (sym c.as_slice.ensures) at c.lend-used.ensures.lent in (
      (refl, λ w. refl),
      record {
        writes_back = tt;
        keys = (keys-kept es, length-kept es);
        entries = starts-view lent;
        ordered = c.lend-used.ensures.ordered;
      },
    )
