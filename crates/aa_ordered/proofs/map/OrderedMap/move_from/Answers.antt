use Rattle.std.proofs.Common.{◌-◌, ◌++◌, arith, ap, length, subst, sym, take, ◌∙◌}
use Rattle.aa_ordered.specs.Entries.{IsOrdered, OrderedView}
use Rattle.aa_ordered.proofs.Splitting.{front-inserted, moved-all, moved-length, none-last}
use Rattle.aa_ordered.proofs.map.OrderedMap.move_from.Goals as goal

pub each-preserved : goal.each-preserved
each-preserved g c =
    let cmp = g.K.Ord.cmp in let xs = c.each.self.entries in let ys = c.each.rest.entries in
    let e : g.row.K.Denot × g.row.V.Denot = (c.in-Some.key, c.in-Some.item) in let last = c.in-Some.ensures.last in let inv = c.each.invariant in
    let front = ap (λ (m : OrderedView g.row.K.Denot g.row.V.Denot). m.entries) c.pop_last.ensures.removed in
    let s = subst (IsOrdered cmp) (sym inv.all) c.requires.ordered in record {
      all = (λ i. front i ++ c.put_within.ensures.inserted i) ∙ ap (λ zs. take (length xs - 1) xs ++ zs) (front-inserted cmp xs ys e last s) ∙ moved-all cmp xs ys e last ∙ inv.all;
      within = omega (arith, ap length front, moved-length cmp xs ys e last, c.each-test.true, c.len.ensures.len);
      held = (
        ap (λ (m : OrderedView _ _). m.capacity) c.pop_last.ensures.removed ∙ inv.held.0,
        ap (λ (m : OrderedView _ _). m.resizes) c.pop_last.ensures.removed ∙ inv.held.1,
      );
      there = (c.put_within.ensures.capacity ∙ inv.there.0, c.put_within.ensures.resizes ∙ inv.there.1);
    }

pub unreachable-requires : goal.unreachable-requires
unreachable-requires g c = let none = none-last c.each.self.entries c.in-None.ensures.last in absurd (omega (arith, none, c.each-test.true, c.len.ensures.len))
