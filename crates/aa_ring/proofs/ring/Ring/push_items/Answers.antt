use Rattle.std.proofs.Common.{◌∷◌, ◌++◌, [], sym, subst, ap, ◌∙◌}
use Rattle.std.proofs.iter.Next.{Yields-more}
use Rattle.std.specs.Iterator.{Yields, size}
use Rattle.std.specs.Mem.{type_size}
use denote.Param.{param}
use Rattle.aa_ring.specs.Extending.{pushed}
use Rattle.aa_ring.specs.Ringed.{LacksRoom}
use Rattle.aa_ring.proofs.Extending.{pushed_all-push, room-pushed}
use Rattle.aa_ring.proofs.ring.Ring.push_items.Goals as goal

pub each-preserved : goal.each-preserved
each-preserved g c =
    let bytes = type_size (param 0 g.row.T) in let left = g.I.Iterator.remaining in let inv = c.each.invariant in let x = c.in-Some.item in
    let fewer = (c.in-Some.ensures.goes.on c.each.iterator.1).2 in (
      c.in-Ok.ensures.pushed ∙ ap (λ s. pushed bytes s x) inv.0 ∙ sym (pushed_all-push bytes c.args.self.now c.each.yielded x),
      λ all. rw c.in-Ok.ensures.pushed (room-pushed bytes c.each.self x (size (left c.each.item-iterator)) (size (left c.next.new.self)) fewer (inv.1 all)),
    )

pub returns-in-Err-clause-failed : goal.returns-in-Err-clause-failed
returns-in-Err-clause-failed g c =
    let it = c.into_iter-item-iterator in let steps = g.I.Iterator.next_gives in let xs = c.each.yielded in let x = c.in-Some.item in
    let more = Yields-more steps it.result xs c.each.item-iterator x c.next.new.self c.each.yielded_by c.in-Some.ensures.steps in
    record {
      front = xs;
      item = x;
      last = c.next.new.self;
      yields = subst (λ s. Yields steps s (xs ++ x ∷ []) c.next.new.self) it.ensures.into_iter_gives more;
      put = c.in-Err.ensures.unchanged ∙ c.each.invariant.0;
      lacks = subst (λ s. LacksRoom (type_size (param 0 g.row.T)) s 1 c.in-Err.refused.error) (sym c.in-Err.ensures.unchanged) c.in-Err.ensures.error;
    }
