use Rattle.std.proofs.Common.{◌+◌, ◌<◌, ◌^◌, arith, rules, ◌∙◌}
use Rattle.aa_ordered.specs.Balance.{joined}
use Rattle.aa_ordered.proofs.Balance.{at-most}
use Rattle.aa_ordered.proofs.Passing.{passed-all, passed-visit, visit-ordered, visit-shorter}
use Rattle.aa_ordered.proofs.map.retain.retain_in.Goals as goal

pub overflow_add-removed : goal.overflow_add-removed
overflow_add-removed g c =
    let most = at-most c.args.leaves.now.lists c.prove_bounds.ensures.lists in
    let small : c.each.removed + c.visit-count.result.1 < 2 ^ 64 = omega (arith, most, c.prove_bounds.ensures.within, c.prove_bounds.ensures.room, c.each.invariant.count, c.visit-count.ensures.count) in
    search (rules, small)

pub each-smaller : goal.each-smaller
each-smaller g c =
    rw c.settle-spot-in-each.ensures.place
    (visit-shorter (goal.F-step g) g.K.Ord.cmp c.each.f (joined c.each.leaves.lists) _ (joined c.visit-count.new.leaves.lists) _ c.visit-count.new.f c.visit-count.ensures.visited)

pub each-preserved : goal.each-preserved
each-preserved g c = record {
  callable = c.visit-count.ensures.callable;
  balanced = c.visit-count.ensures.balanced;
  ordered = visit-ordered (goal.F-step g) g.K.Ord.cmp c.each.f (joined c.each.leaves.lists) _ (joined c.visit-count.new.leaves.lists) _ c.visit-count.new.f c.visit-count.ensures.visited c.each.invariant.ordered;
  room = c.visit-count.ensures.room ∙ c.each.invariant.room;
  resizes = c.visit-count.ensures.resizes ∙ c.each.invariant.resizes;
  count = omega (arith, c.each.invariant.count, c.visit-count.ensures.count);
  item = c.settle-spot-in-each.ensures.item;
  end = λ h. c.settle-spot-in-each.ensures.place ∙ c.settle-spot-in-each.ensures.end h;
  passed = rw c.settle-spot-in-each.ensures.place
      (passed-visit (goal.F-step g) c.args.f.now (joined c.args.leaves.now.lists) c.each.f (joined c.each.leaves.lists) _ (joined c.visit-count.new.leaves.lists) _ c.visit-count.new.f c.each.invariant.passed c.visit-count.ensures.visited);
}

pub returns-clause-kept : goal.returns-clause-kept
returns-clause-kept g c =
    passed-all (goal.F-step g) c.args.f.now (joined c.args.leaves.now.lists) c.each.f (joined c.each.leaves.lists) _ (c.each.invariant.end (omega (arith, c.each-test.false, c.len.ensures.count))) c.each.invariant.passed
