use Rattle.std.proofs.Common.{sym, ◌∙◌}
use Rattle.aa_ordered.proofs.Ends.{at-within, cut-last, cut-map, last-get}
use Rattle.aa_ordered.proofs.map.OrderedMap.pop_last.Goals as goal

pub invariant_of-self : goal.invariant_of-self
invariant_of-self g c =
    cut-map g.K.Ord.cmp c.self.inside.leaves c.remove_at-last.new.leaves _ c.remove_at-last.ensures.removed
    (at-within c.self.inside.leaves.lists c.in-Some.spot.list c.in-Some.spot.at c.in-Some.ensures.item) c.self.inside.len c.self.invariant c.remove_at-last.ensures.balanced

pub returns-in-Some-clause-last : goal.returns-in-Some-clause-last
returns-in-Some-clause-last g c = sym c.remove_at-last.ensures.item ∙ last-get c.self.inside.leaves c.args.self.now c.self.view_is _ c.in-Some.ensures.last

pub returns-in-Some-clause-removed : goal.returns-in-Some-clause-removed
returns-in-Some-clause-removed g c =
    cut-last g.K.Ord.cmp c.self.inside.leaves c.remove_at-last.new.leaves _ c.remove_at-last.ensures.removed c.args.self.now c.self.view_is c.remove_at-last.ensures.room c.remove_at-last.ensures.resizes c.in-Some.ensures.last
