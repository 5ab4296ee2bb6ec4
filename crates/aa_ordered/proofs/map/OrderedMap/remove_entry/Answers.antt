use Rattle.std.proofs.Common.{sym}
use Rattle.aa_ordered.proofs.Sound.{absent-entry, absent-without, present-entry, present-without, removed-map}
use Rattle.aa_ordered.proofs.map.OrderedMap.remove_entry.Goals as goal

pub invariant_of-self : goal.invariant_of-self
invariant_of-self g c =
    removed-map (g.Q.Lookup.order c.args.key) c.self.inside.leaves c.args.self.now c.self.view_is _ c.in-Ok.ensures.found c.remove_at-entry.result c.remove_at-entry.ensures.item
    c.remove_at-entry.new.leaves c.remove_at-entry.ensures.removed g.K.Ord.cmp c.self.inside.len c.self.invariant c.remove_at-entry.ensures.balanced

pub returns-in-Ok-clause-old : goal.returns-in-Ok-clause-old
returns-in-Ok-clause-old g c = present-entry (g.Q.Lookup.order c.args.key) c.self.inside.leaves c.args.self.now c.self.view_is _ c.in-Ok.ensures.found c.remove_at-entry.result c.remove_at-entry.ensures.item

pub returns-in-Ok-clause-removed : goal.returns-in-Ok-clause-removed
returns-in-Ok-clause-removed g c =
    present-without (g.Q.Lookup.order c.args.key) c.self.inside.leaves c.args.self.now c.self.view_is _ c.in-Ok.ensures.found c.remove_at-entry.result c.remove_at-entry.ensures.item
    c.remove_at-entry.new.leaves c.remove_at-entry.ensures.removed c.remove_at-entry.ensures.room c.remove_at-entry.ensures.resizes

pub returns-in-Err-clause-old : goal.returns-in-Err-clause-old
returns-in-Err-clause-old g c = sym (absent-entry (g.Q.Lookup.order c.args.key) c.self.inside.leaves c.args.self.now c.self.view_is _ c.in-Err.ensures.absent)

pub returns-in-Err-clause-removed : goal.returns-in-Err-clause-removed
returns-in-Err-clause-removed g c = absent-without (g.Q.Lookup.order c.args.key) c.self.inside.leaves c.args.self.now c.self.view_is _ c.in-Err.ensures.absent
