use Rattle.std.proofs.Common.{◌+◌, ◌<◌, ◌^◌, ap, refl, rules}
use Rattle.aa_ordered.proofs.Adding.{added-inserts, added-is, added-map, present-never}
use Rattle.aa_ordered.proofs.Sound.{inserted-small}
use Rattle.aa_ordered.proofs.map.OrderedMap.insert_vacant.Goals as goal

pub unreachable-requires : goal.unreachable-requires
unreachable-requires g c = present-never g.K.Ord.cmp c.args.key c.self.inside.leaves c.args.self.now c.self.view_is _ c.in-Ok.ensures.found c.requires

pub overflow_add-self : goal.overflow_add-self
overflow_add-self g c =
    let small : c.self.inside.len + 1 < 2 ^ 64 =
    inserted-small g.K.Ord.cmp c.args.key c.self.inside.leaves c.args.self.now c.self.view_is _ c.in-Err.ensures.absent g.met.K.Ord.total c.self.inside.len c.self.invariant c.args.item c.insert_at.new.leaves
    c.in-Ok-insert_at.ensures.inserted c.prove_bounds.ensures.lists c.prove_bounds.ensures.within c.prove_bounds.ensures.room in
    search (rules, small)

pub invariant_of-self-lent : goal.invariant_of-self-lent
invariant_of-self-lent g c w =
    added-map g.K.Ord.cmp c.args.key c.self.inside.leaves c.args.self.now c.self.view_is _ c.in-Err.ensures.absent c.args.item c.insert_at.new.leaves c.in-Ok-insert_at.ensures.inserted c.in-Ok-insert_at.to.list c.in-Ok-insert_at.to.at
    c.in-Ok-insert_at.ensures.item c.in-Ok-insert_at.ensures.place c.item_mut.result.now c.item_mut.ensures.value g.met.K.Ord.total c.self.inside.len c.self.invariant c.in-Ok-insert_at.ensures.balanced w

pub returns-in-Ok-insert_at : goal.returns-in-Ok-insert_at
returns-in-Ok-insert_at g c = (
  (
    refl,
    (λ w _.
        added-inserts g.K.Ord.cmp c.args.key c.self.inside.leaves c.args.self.now c.self.view_is _ c.in-Err.ensures.absent c.args.item c.insert_at.new.leaves c.in-Ok-insert_at.ensures.inserted c.in-Ok-insert_at.to.list c.in-Ok-insert_at.to.at
        c.in-Ok-insert_at.ensures.item c.in-Ok-insert_at.ensures.place c.item_mut.result.now c.item_mut.ensures.value c.insert_at.ensures.room c.insert_at.ensures.grown c.insert_at.ensures.resizes w),
    tt,
  ),
  record {
    writes_back = tt;
    value = ap (λ (e : g.row.K.Denot × g.row.V.Denot). e.1)
        (added-is g.K.Ord.cmp c.args.key c.self.inside.leaves c.args.self.now c.self.view_is _ c.in-Err.ensures.absent c.args.item c.insert_at.new.leaves c.in-Ok-insert_at.ensures.inserted c.in-Ok-insert_at.to.list c.in-Ok-insert_at.to.at
        c.in-Ok-insert_at.ensures.item c.in-Ok-insert_at.ensures.place c.item_mut.result.now c.item_mut.ensures.value);
    fits = λ _. refl;
    returned = tt;
    error = tt;
  },
)
