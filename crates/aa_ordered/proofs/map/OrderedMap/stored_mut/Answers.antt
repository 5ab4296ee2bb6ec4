use Rattle.std.proofs.Common.{ap, refl, subst, sym, ◌≡◌, ◌∙◌}
use Rattle.std.specs.BTreeMap.{insert_entry}
use Rattle.std.specs.Map.{keys_of}
use Rattle.aa_ordered.specs.Balance.{joined}
use Rattle.aa_ordered.specs.Capacity.{capacity_of}
use Rattle.aa_ordered.specs.Entries.{value, OrderedView}
use Rattle.aa_ordered.proofs.Found.{found-keys}
use Rattle.aa_ordered.proofs.Reading.{got-value, written-inserted, written-map}
use Rattle.aa_ordered.proofs.Sound.{absent-never}
use Rattle.aa_ordered.proofs.map.OrderedMap.stored_mut.Goals as goal

pub invariant_of-self-lent : goal.invariant_of-self-lent
invariant_of-self-lent g c w = written-map g.K.Ord.cmp c.self.inside.leaves c.in-Ok.spot.list c.in-Ok.spot.at c.in-Ok.ensures.item c.item_mut.result.now c.item_mut.ensures.value w c.self.inside.len c.self.invariant

pub unreachable-requires : goal.unreachable-requires
unreachable-requires g c = absent-never (g.K.Ord.cmp c.args.key.now) c.self.inside.leaves c.args.self.now c.self.view_is _ c.in-Err.ensures.absent c.requires

pub returns : goal.returns
returns g c =
    let k = c.args.key.now in let spot = c.in-Ok.spot in (
      (
        refl,
        λ w.
            ap (λ es. record { entries = es; capacity = capacity_of c.self.inside.leaves.room; resizes = c.self.inside.leaves.resizes })
            (written-inserted g.K.Ord.cmp c.self.inside.leaves spot.list spot.at c.in-Ok.ensures.item c.item_mut.result.now c.item_mut.ensures.value w k c.in-Ok.ensures.found)
            ∙ ap (λ (m : OrderedView g.row.K.Denot g.row.V.Denot). record m { entries = insert_entry g.K.Ord.cmp m.entries k w }) c.self.view_is,
      ),
      record {
        writes_back = tt;
        value = sym (got-value (g.K.Ord.cmp k) c.self.inside.leaves.lists spot.list spot.at c.in-Ok.ensures.item c.in-Ok.ensures.found c.item_mut.result.now c.item_mut.ensures.value
            ∙ ap (λ (m : OrderedView g.row.K.Denot g.row.V.Denot). value g.K.Ord.cmp m.entries k) c.self.view_is);
        keys = subst (λ (m : OrderedView g.row.K.Denot g.row.V.Denot). (v : g.row.V.Denot) → keys_of (insert_entry g.K.Ord.cmp m.entries k v) ≡ keys_of m.entries) c.self.view_is
            (found-keys g.K.Ord.cmp k (joined c.self.inside.leaves.lists) _ c.item_mut.result.now c.in-Ok.ensures.found);
      },
    )
