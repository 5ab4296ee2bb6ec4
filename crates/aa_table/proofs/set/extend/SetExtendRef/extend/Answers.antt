use Rattle.std.proofs.Common.{[], ◌∷◌, map, refl, subst, sym, ◌∙◌}
use Rattle.std.proofs.lemmas.List.{map-append}
use Rattle.std.specs.Iterator.{size}
use Rattle.aa_table.specs.SetContents.{InsertsElements}
use Rattle.aa_table.proofs.Elementwise.{element-room, element-steady, insert-element, insert-no-elements}
use Rattle.aa_table.proofs.set.extend.SetExtendRef.extend.Goals as goal

pub each-init : goal.each-init
each-init g c = record {
  inserted = insert-no-elements g.T.PartialEq.eq c.args.self.now;
  steady = λ _. (refl, refl);
  room = λ all.
      all c.into_iter-value-iterator.result c.into_iter-value-iterator.ensures.into_iter_gives;
}

pub each-preserved : goal.each-preserved
each-preserved g c =
    let e = c.in-Ok.ensures in let inv = c.each.invariant in
    let left = g.U.IntoIter.Iterator.remaining in
    let now = size (left c.each.value-iterator) in let next = size (left c.next.new.self) in
    let fewer = (c.in-Some.ensures.goes.on c.each.iterator.1).2 in
    let x = c.in-Some.value in let xs = c.each.yielded in let new = c.in-Ok.field-0 in
    record {
      inserted = subst
          (λ ys. InsertsElements g.T.PartialEq.eq c.args.self.now ys c.insert.new.self)
          (sym (map-append (λ y. y.now) xs (x ∷ [])))
          (insert-element g.T.PartialEq.eq g.met.T.Eq.laws c.args.self.now c.each.self
          c.insert.new.self (map (λ y. y.now) xs) x.now new inv.inserted e.new e.added e.made
          e.resized e.kept e.builder);
      room = λ all. element-room c.each.self c.insert.new.self x.now now next new fewer
          (inv.room all) e.added e.made e.kept;
      steady = λ all.
          let one = element-steady c.each.self c.insert.new.self now next new fewer (inv.room all)
          e.made e.resized e.kept in
          (one.0 ∙ (inv.steady all).0, one.1 ∙ (inv.steady all).1);
    }
