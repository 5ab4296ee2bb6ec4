use Rattle.std.proofs.Common.{ap, ◌∙◌}
use Rattle.aa_ordered.specs.Iterating.{insert_all}
use Rattle.aa_ordered.specs.Entries.{OrderedView}
use Rattle.aa_ordered.proofs.Appending.{step-all, step-room}
use Rattle.aa_ordered.proofs.map.OrderedMap.append.Goals as goal

pub each-preserved : goal.each-preserved
each-preserved g c =
    let cmp = g.K.Ord.cmp in let es = c.each.self.entries in let xs = c.each.other.entries in
    let one = c.in-Some.ensures.first in let inv = c.each.invariant in
    let rest = ap (λ (m : OrderedView g.row.K.Denot g.row.V.Denot). m.entries) c.pop_first.ensures.removed in record {
      all = (λ i. insert_all cmp (c.put_within.ensures.inserted i) (rest i)) ∙ step-all cmp es xs c.in-Some.key c.in-Some.item one ∙ inv.all;
      room = rw (c.put_within.ensures.inserted, rest, c.put_within.ensures.capacity) (step-room cmp es xs c.in-Some.key c.in-Some.item one c.each.self.capacity inv.room);
      capacity = c.put_within.ensures.capacity ∙ inv.capacity;
      resizes = c.put_within.ensures.resizes ∙ inv.resizes;
      there = (
        ap (λ (m : OrderedView _ _). m.capacity) c.pop_first.ensures.removed ∙ inv.there.0,
        ap (λ (m : OrderedView _ _). m.resizes) c.pop_first.ensures.removed ∙ inv.there.1,
      );
    }
