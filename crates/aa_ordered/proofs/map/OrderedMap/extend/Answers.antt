use Rattle.std.proofs.Common.{arith, refl, ◌∙◌}
use Rattle.std.specs.Iterator.{size}
use Rattle.std.specs.Prelude.{length, ◌<◌}
use Rattle.aa_ordered.proofs.Extending.{fits-after, insert-more, insert-none}
use Rattle.aa_ordered.proofs.Resizing.{stays-as}
use Rattle.aa_ordered.proofs.map.OrderedMap.extend.Goals as goal

pub each-init : goal.each-init
each-init g c = record {
  inserted = insert-none g.K.Ord.cmp c.args.self.now;
  room = λ all. all c.into_iter-entry-iterator.result c.into_iter-entry-iterator.ensures.into_iter_gives;
  steady = λ _. (refl, refl);
}

pub each-preserved : goal.each-preserved
each-preserved g c =
    let x = c.in-Some.entry in let inv = c.each.invariant in let left = g.U.IntoIter.Iterator.remaining in let e = c.in-Ok.ensures in
    let fewer = (c.in-Some.ensures.goes.on c.each.iterator.1).2 in let cmp = g.K.Ord.cmp in
    record {
      inserted = insert-more cmp c.args.self.now c.each.self c.insert.new.self c.each.yielded x inv.inserted e.inserted e.kept e.capacity e.grown e.resizes;
      room = λ all.
          let had = inv.room all in
          let less : length c.each.self.entries < c.each.self.capacity = omega (arith, fewer, had) in
          fits-after cmp x.0 x.1 c.each.self c.insert.new.self (size (left c.each.entry-iterator)) (size (left c.next.new.self)) fewer had e.inserted (e.capacity less);
      steady = λ all.
          let less : length c.each.self.entries < c.each.self.capacity = omega (arith, fewer, inv.room all) in let kept = e.capacity less in
          (kept ∙ (inv.steady all).0, stays-as c.each.self c.insert.new.self kept e.resizes ∙ (inv.steady all).1);
    }

pub returns-in-Err-clause-extended : goal.returns-in-Err-clause-extended
returns-in-Err-clause-extended g c =
    let made = c.into_iter-entry-iterator in let same = c.in-Err.ensures.unchanged in
    (made.result, c.each.yielded, made.ensures.into_iter_gives, rw same c.each.invariant.inserted, (c.each.entry-iterator, c.each.yielded_by))

pub returns-in-Err-clause-fits : goal.returns-in-Err-clause-fits
returns-in-Err-clause-fits g c = λ all.
    let fewer = (c.in-Some.ensures.goes.on c.each.iterator.1).2 in
    c.in-Err.ensures.fits (omega (arith, fewer, c.each.invariant.room all))
