use Rattle.std.proofs.Common.{refl, rules, ◌∙◌}
use Rattle.std.specs.Iterator.{size, Drains}
use Rattle.std.proofs.iter.runs.Consumers.{total_runs}
use Rattle.aa_table.specs.SetContents.{InsertsElements}
use Rattle.aa_table.proofs.Elementwise.{element-room, element-steady, insert-element, insert-no-elements}
use Rattle.aa_table.proofs.set.Set.extend.Goals as goal

pub each-init : goal.each-init
each-init g c = record {
  inserted = insert-no-elements g.T.PartialEq.eq c.args.self.now;
  steady = λ _. (refl, refl);
  room = λ all. all c.into_iter-value-iterator.result c.into_iter-value-iterator.ensures.into_iter_gives;
}

pub each-preserved : goal.each-preserved
each-preserved g c =
    let e = c.in-Ok.ensures in let inv = c.each.invariant in let left = g.U.IntoIter.Iterator.remaining in
    let fewer = (c.in-Some.ensures.goes.on c.each.iterator.1).2 in
    record {
      inserted = insert-element g.T.PartialEq.eq g.met.T.Eq.laws c.args.self.now c.each.self c.insert.new.self c.each.yielded c.in-Some.value c.in-Ok.field-0 inv.inserted e.new e.added e.made e.resized e.kept e.builder;
      room = λ all. element-room c.each.self c.insert.new.self c.in-Some.value (size (left c.each.value-iterator)) (size (left c.next.new.self)) c.in-Ok.field-0 fewer (inv.room all) e.added e.made e.kept;
      steady = λ all.
          let one = element-steady c.each.self c.insert.new.self (size (left c.each.value-iterator)) (size (left c.next.new.self)) c.in-Ok.field-0 fewer (inv.room all) e.made e.resized e.kept in
          (one.0 ∙ (inv.steady all).0, one.1 ∙ (inv.steady all).1);
    }

pub returns-clause-runs : goal.returns-clause-runs
returns-clause-runs g c =
    let made = c.into_iter-value-iterator in
    let drained : Drains g.U.IntoIter.Iterator.next_gives made.result c.each.yielded = search rules in
    let all = total_runs g.U.IntoIter.Iterator.next_gives made.result (Unit {0}) (λ xs. InsertsElements g.T.PartialEq.eq c.args.self.now xs c.each.self) in
    (made.result, made.ensures.into_iter_gives, all (c.each.yielded, λ _. drained, c.each.invariant.inserted) tt)
