use Rattle.std.proofs.Common.{◌+◌, ◌<◌, ◌^◌, Some, ap, rules, sym, ◌∙◌}
use Rattle.std.specs.BTreeMap.{insert_entry}
use Rattle.aa_ordered.specs.Entries.{value, OrderedView}
use Rattle.aa_ordered.proofs.Reading.{got-value, written-inserted, written-map}
use Rattle.aa_ordered.proofs.Resizing.{grows-as}
use Rattle.aa_ordered.proofs.Sound.{absent-inserted, absent-never, absent-value, inserted-map, inserted-small}
use Rattle.aa_ordered.proofs.map.OrderedMap.insert.Goals as goal

pub invariant_of-self : goal.invariant_of-self
invariant_of-self g c = written-map g.K.Ord.cmp c.self.inside.leaves c.in-Ok.spot.list c.in-Ok.spot.at c.in-Ok.ensures.item c.item_mut.result.now c.item_mut.ensures.value c.replace.new.dest c.self.inside.len c.self.invariant

pub returns-in_err-insert_at-in-Err-clause-there : goal.returns-in_err-insert_at-in-Err-clause-there
returns-in_err-insert_at-in-Err-clause-there g c t = absent-never (g.K.Ord.cmp c.args.key) c.self.inside.leaves c.args.self.now c.self.view_is _ c.in-Err.ensures.absent t

pub overflow_add-self : goal.overflow_add-self
overflow_add-self g c =
    let small : c.self.inside.len + 1 < 2 ^ 64 =
    inserted-small g.K.Ord.cmp c.args.key c.self.inside.leaves c.args.self.now c.self.view_is _ c.in-Err.ensures.absent g.met.K.Ord.total c.self.inside.len c.self.invariant c.args.item c.insert_at.new.leaves
    c.in_ok-insert_at-in-Err.ensures.inserted c.prove_bounds.ensures.lists c.prove_bounds.ensures.within c.prove_bounds.ensures.room in
    search (rules, small)

pub invariant_of-self-in-Err : goal.invariant_of-self-in-Err
invariant_of-self-in-Err g c =
    inserted-map g.K.Ord.cmp c.args.key c.self.inside.leaves c.args.self.now c.self.view_is _ c.in-Err.ensures.absent g.met.K.Ord.total c.self.inside.len c.self.invariant c.args.item c.insert_at.new.leaves
    c.in_ok-insert_at-in-Err.ensures.inserted c.in_ok-insert_at-in-Err.ensures.balanced

pub returns-in-Ok-clause-old : goal.returns-in-Ok-clause-old
returns-in-Ok-clause-old g c =
    ap Some c.replace.ensures.value
    ∙ got-value (g.K.Ord.cmp c.args.key) c.self.inside.leaves.lists c.in-Ok.spot.list c.in-Ok.spot.at c.in-Ok.ensures.item c.in-Ok.ensures.found c.item_mut.result.now c.item_mut.ensures.value
    ∙ ap (λ (m : OrderedView g.row.K.Denot g.row.V.Denot). value g.K.Ord.cmp m.entries c.args.key) c.self.view_is

pub returns-in-Ok-clause-inserted : goal.returns-in-Ok-clause-inserted
returns-in-Ok-clause-inserted g c =
    written-inserted g.K.Ord.cmp c.self.inside.leaves c.in-Ok.spot.list c.in-Ok.spot.at c.in-Ok.ensures.item c.item_mut.result.now c.item_mut.ensures.value c.replace.new.dest c.args.key c.in-Ok.ensures.found
    ∙ (λ i. insert_entry g.K.Ord.cmp (c.self.view_is i).entries c.args.key (c.replace.ensures.after i))

pub returns-in_ok-insert_at-in-Err-clause-old : goal.returns-in_ok-insert_at-in-Err-clause-old
returns-in_ok-insert_at-in-Err-clause-old g c = sym (absent-value (g.K.Ord.cmp c.args.key) c.self.inside.leaves c.args.self.now c.self.view_is _ c.in-Err.ensures.absent)

pub returns-in_ok-insert_at-in-Err-clause-inserted : goal.returns-in_ok-insert_at-in-Err-clause-inserted
returns-in_ok-insert_at-in-Err-clause-inserted g c =
    c.in_ok-insert_at-in-Err.ensures.inserted ∙ absent-inserted g.K.Ord.cmp c.args.key c.self.inside.leaves c.args.self.now c.self.view_is _ c.in-Err.ensures.absent c.args.item

pub returns-in_ok-insert_at-in-Err-clause-kept : goal.returns-in_ok-insert_at-in-Err-clause-kept
returns-in_ok-insert_at-in-Err-clause-kept g c t = absent-never (g.K.Ord.cmp c.args.key) c.self.inside.leaves c.args.self.now c.self.view_is _ c.in-Err.ensures.absent t

pub returns-in_ok-insert_at-in-Err-clause-grown : goal.returns-in_ok-insert_at-in-Err-clause-grown
returns-in_ok-insert_at-in-Err-clause-grown g c = grows-as c.self.inside.leaves c.args.self.now c.self.view_is c.insert_at.new.leaves.room c.insert_at.ensures.grown
