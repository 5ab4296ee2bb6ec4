use Rattle.aa_gap.proofs.{arith, Yields-more, rules, type_size}
use Rattle.std.proofs.lemmas.Grind.{common_steps}
use denote.Param.{param}
use Rattle.aa_gap.proofs.Extending.{HasInserted-made, inserted-more}
use Rattle.aa_gap.proofs.gap_buffer.GapBuffer.insert_items.Goals as goal

pub each-preserved : goal.each-preserved
each-preserved g c =
    let made = inserted-more _ _ _ _ _ _ c.each.invariant.0 c.in-Ok.ensures.inserted in
    grind (arith, common_steps, made)

pub returns-in-Err-clause-failed : goal.returns-in-Err-clause-failed
returns-in-Err-clause-failed g c =
    let size = type_size (param 0 g.row.T) in let it = c.into_iter-item-iterator in
    let steps = g.I.Iterator.next_gives in let xs = c.each.yielded in let x = c.in-Some.item in
    let more = Yields-more steps it.result xs c.each.item-iterator x c.next.new.self
    c.each.yielded_by c.in-Some.ensures.steps in
    let same = c.in-Err.ensures.unchanged in
    record {
      front = xs;
      item = x;
      last = c.next.new.self;
      yields = rw it.ensures.into_iter_gives at more;
      done = rw same c.each.invariant.0.done;
      lacks = rw same c.in-Err.ensures.error;
    }

pub returns-clause-items : goal.returns-clause-items
returns-clause-items g c =
    let xs = c.each.yielded in let done = c.each.invariant.0.done in
    let parts = HasInserted-made _ _ _ xs done in (xs, search rules, parts.0, parts.1, done)
