use Rattle.std.proofs.Common.{[], ◌∷◌, ◌<◌, arith, length, map, refl, subst, sym, ◌∙◌}
use Rattle.std.proofs.lemmas.List.{map-append}
use Rattle.std.specs.Iterator.{size}
use Rattle.aa_ordered_set.specs.Sets.{InsertsElements}
use Rattle.aa_ordered_set.proofs.Sets.{elements-fit, elements-more, elements-none, pairs-count, stays}
use Rattle.aa_ordered_set.proofs.extend.OrderedSetExtendRef.extend.Goals as goal

pub each-init : goal.each-init
each-init g c = record {
  inserted = elements-none g.T.Ord.cmp c.args.self.now;
  room = λ all. all c.into_iter-value-iterator.result c.into_iter-value-iterator.ensures.into_iter_gives;
  steady = λ _. (refl, refl);
}

pub each-preserved : goal.each-preserved
each-preserved g c =
    let x = c.in-Some.value in let inv = c.each.invariant in let left = g.U.IntoIter.Iterator.remaining in let e = c.in-Ok.ensures in
    let fewer = (c.in-Some.ensures.goes.on c.each.iterator.1).2 in let cmp = g.T.Ord.cmp in
    let old = c.each.self in let new = c.insert.new.self in let xs = map (λ y. y.now) c.each.yielded in
    record {
      inserted = subst (λ ys. InsertsElements cmp c.args.self.now ys new) (sym (map-append (λ y. y.now) c.each.yielded (x ∷ [])))
          (elements-more cmp c.args.self.now old new xs x.now e.inserted inv.inserted e.kept e.capacity e.grown e.resizes);
      room = λ all.
          let had = inv.room all in
          let less : length old.elements < old.capacity = omega (arith, fewer, had, pairs-count old.elements) in
          elements-fit cmp old old new xs x.now e.inserted (size (left c.each.value-iterator)) (size (left c.next.new.self)) fewer had (e.capacity less);
      steady = λ all.
          let less : length old.elements < old.capacity = omega (arith, fewer, inv.room all, pairs-count old.elements) in let kept = e.capacity less in
          (kept ∙ (inv.steady all).0, stays old new kept e.resizes ∙ (inv.steady all).1);
    }

pub returns-in-Err-clause-extended : goal.returns-in-Err-clause-extended
returns-in-Err-clause-extended g c =
    let made = c.into_iter-value-iterator in let same = c.in-Err.ensures.unchanged in
    (made.result, c.each.yielded, made.ensures.into_iter_gives, rw same c.each.invariant.inserted, (c.each.value-iterator, c.each.yielded_by))

pub returns-in-Err-clause-fits : goal.returns-in-Err-clause-fits
returns-in-Err-clause-fits g c = λ all.
    let fewer = (c.in-Some.ensures.goes.on c.each.iterator.1).2 in
    c.in-Err.ensures.fits (omega (arith, fewer, c.each.invariant.room all, pairs-count c.each.self.elements))
