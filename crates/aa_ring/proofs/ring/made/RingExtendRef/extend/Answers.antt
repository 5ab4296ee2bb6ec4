use Rattle.std.proofs.Common.{[], ◌∷◌, map, sym, ap, ◌∙◌}
use Rattle.std.proofs.lemmas.List.{map-append}
use Rattle.std.specs.Iterator.{size}
use Rattle.std.specs.Mem.{type_size}
use denote.Param.{copied}
use Rattle.aa_ring.specs.Extending.{pushed, pushed_all}
use Rattle.aa_ring.proofs.Extending.{pushed_all-push, room-pushed, extended-by-pushes}
use Rattle.aa_ring.proofs.ring.made.RingExtendRef.extend.Goals as goal

pub each-preserved : goal.each-preserved
each-preserved g c =
    let bytes = type_size (copied 0 g.row.T) in let old = c.args.self.now in
    let left = g.I.IntoIter.Iterator.remaining in let inv = c.each.invariant in
    let x = c.in-Some.item in let xs = c.each.yielded in
    let fewer = (c.in-Some.ensures.goes.on c.each.iterator.1).2 in (
      c.in-Ok.ensures.pushed ∙ ap (λ s. pushed bytes s x.now) inv.0
          ∙ sym (pushed_all-push bytes old (map (λ y. y.now) xs) x.now)
          ∙ ap (pushed_all bytes old) (sym (map-append (λ y. y.now) xs (x ∷ []))),
      λ all. rw c.in-Ok.ensures.pushed (room-pushed bytes c.each.self x.now
          (size (left c.each.item-iterator)) (size (left c.next.new.self)) fewer (inv.1 all)),
    )

pub returns-in-Err-clause-extended : goal.returns-in-Err-clause-extended
returns-in-Err-clause-extended g c =
    let bytes = type_size (copied 0 g.row.T) in let it = c.into_iter-item-iterator in
    let xs = c.each.yielded in
    let put = extended-by-pushes bytes c.args.self.now (map (λ y. y.now) xs) c.push_back.new.self
    (c.in-Err.ensures.unchanged ∙ c.each.invariant.0) in
    (it.result, xs, it.ensures.into_iter_gives, put, (c.each.item-iterator, c.each.yielded_by))

pub returns-clause-extended : goal.returns-clause-extended
returns-clause-extended g c =
    let bytes = type_size (copied 0 g.row.T) in let it = c.into_iter-item-iterator in
    let xs = c.each.yielded in
    let put = extended-by-pushes bytes c.args.self.now (map
    (λ y. y.now) xs) c.each.self c.each.invariant.0 in (
      it.result,
      xs,
      it.ensures.into_iter_gives,
      put,
      (c.next.new.self, (c.each.item-iterator, c.each.yielded_by, c.in-None.ensures.steps)),
    )
