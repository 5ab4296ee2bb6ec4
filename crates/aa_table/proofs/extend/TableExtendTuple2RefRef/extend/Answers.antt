use Rattle.std.proofs.Common.{[], ◌∷◌, arith, map, refl, subst, sym, ◌∙◌}
use Rattle.std.specs.Prelude.{is_some}
use Rattle.std.proofs.lemmas.List.{map-append}
use Rattle.std.specs.Iterator.{size}
use Rattle.aa_table.specs.Contents.{InsertsAll}
use Rattle.aa_table.proofs.Extending.{insert-more, insert-none, room-after, steady-after}
use Rattle.aa_table.proofs.extend.TableExtendTuple2RefRef.extend.Goals as goal

pub each-init : goal.each-init
each-init g c = record {
  inserted = insert-none g.K.PartialEq.eq c.args.self.now;
  steady = λ _. (refl, refl);
  room = λ all.
      all c.into_iter-entry-iterator.result c.into_iter-entry-iterator.ensures.into_iter_gives;
}

pub each-preserved : goal.each-preserved
each-preserved g c =
    let e = c.in-Ok.ensures in let inv = c.each.invariant in
    let left = g.U.IntoIter.Iterator.remaining in
    let now = size (left c.each.entry-iterator) in let next = size (left c.next.new.self) in
    let fewer = (c.in-Some.ensures.goes.on c.each.iterator.1).2 in
    let x = c.in-Some.entry in let xs = c.each.yielded in let old = is_some c.in-Ok.old in
    record {
      inserted = subst
          (λ ys. InsertsAll g.K.PartialEq.eq c.args.self.now ys c.insert.new.self)
          (sym (map-append (λ y. (y.0.now, y.1.now)) xs (x ∷ [])))
          (insert-more g.K.PartialEq.eq c.args.self.now c.each.self c.insert.new.self
          (map (λ y. (y.0.now, y.1.now)) xs) (x.0.now, x.1.now) old inv.inserted e.inserted
          e.builder e.one_more e.replaced_count e.made e.replaced e.resized e.steady);
      room = λ all. room-after c.each.self c.insert.new.self now next old fewer (inv.room all)
          e.one_more e.replaced_count e.made e.replaced;
      steady = λ all.
          let one = steady-after c.each.self c.insert.new.self now next old fewer (inv.room all)
          e.made e.replaced e.resized e.steady in
          (one.0 ∙ (inv.steady all).0, one.1 ∙ (inv.steady all).1);
    }

pub returns-in-Err-clause-extended : goal.returns-in-Err-clause-extended
returns-in-Err-clause-extended g c =
    let made = c.into_iter-entry-iterator in let xs = c.each.yielded in
    let kept = subst
    (λ t. InsertsAll g.K.PartialEq.eq c.args.self.now (map (λ y. (y.0.now, y.1.now)) xs) t)
    (sym c.in-Err.ensures.unchanged) c.each.invariant.inserted in (
      made.result,
      xs,
      made.ensures.into_iter_gives,
      kept,
      (c.each.entry-iterator, c.each.yielded_by),
    )

pub returns-in-Err-clause-fits : goal.returns-in-Err-clause-fits
returns-in-Err-clause-fits g c = λ all.
    let fewer = (c.in-Some.ensures.goes.on c.each.iterator.1).2 in
    c.in-Err.ensures.fits (omega (arith, c.each.invariant.room all, fewer))
