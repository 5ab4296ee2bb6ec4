use Rattle.std.proofs.Common.{sym, ◌∙◌}
use Rattle.aa_ordered.proofs.Ends.{at-within, cut-first, cut-map, first-get}
use Rattle.aa_ordered.proofs.map.OrderedMap.pop_first.Goals as goal

pub invariant_of-self : goal.invariant_of-self
invariant_of-self g c =
    cut-map g.K.Ord.cmp c.self.inside.leaves c.remove_at-first.new.leaves _ c.remove_at-first.ensures.removed
    (at-within c.self.inside.leaves.lists c.in-Some.spot.list c.in-Some.spot.at c.in-Some.ensures.item) c.self.inside.len c.self.invariant c.remove_at-first.ensures.balanced

pub returns-in-Some-clause-first : goal.returns-in-Some-clause-first
returns-in-Some-clause-first g c = sym c.remove_at-first.ensures.item ∙ first-get c.self.inside.leaves c.args.self.now c.self.view_is _ c.in-Some.ensures.first

pub returns-in-Some-clause-removed : goal.returns-in-Some-clause-removed
returns-in-Some-clause-removed g c =
    cut-first g.K.Ord.cmp c.self.inside.leaves c.remove_at-first.new.leaves _ c.remove_at-first.ensures.removed c.args.self.now c.self.view_is c.remove_at-first.ensures.room c.remove_at-first.ensures.resizes c.in-Some.ensures.first
