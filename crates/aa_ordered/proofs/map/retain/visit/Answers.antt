use Rattle.std.proofs.Common.{arith}
use Rattle.aa_ordered.proofs.Passing.{cut-count, visits-cut, visits-kept, wrote-balanced, wrote-count}
use Rattle.aa_ordered.proofs.map.retain.visit.Goals as goal

pub returns-then-call_for-clause-balanced : goal.returns-then-call_for-clause-balanced
returns-then-call_for-clause-balanced g c = wrote-balanced c.args.leaves.now.lists c.args.spot.list c.args.spot.at c.requires.item c.call_for.new.entry c.requires.balanced

pub returns-then-call_for-clause-visited : goal.returns-then-call_for-clause-visited
returns-then-call_for-clause-visited g c =
    visits-kept (goal.F-step g) c.args.f.now c.call_for.new.f c.args.leaves.now.lists c.args.spot.list c.args.spot.at c.requires.item c.item_mut.result.now c.call_for.new.entry c.item_mut.ensures.value c.call_for.ensures.same
    (rw c.if-call_for.true at c.call_for.ensures.called)

pub returns-then-call_for-clause-count : goal.returns-then-call_for-clause-count
returns-then-call_for-clause-count g c = omega (arith, wrote-count c.args.leaves.now.lists c.args.spot.list c.args.spot.at c.requires.item c.call_for.new.entry)

pub take_at-entry-requires-clause-balanced : goal.take_at-entry-requires-clause-balanced
take_at-entry-requires-clause-balanced g c = wrote-balanced c.args.leaves.now.lists c.args.spot.list c.args.spot.at c.requires.item c.call_for.new.entry c.requires.balanced

pub returns-clause-visited : goal.returns-clause-visited
returns-clause-visited g c =
    visits-cut (goal.F-step g) c.args.f.now c.call_for.new.f c.args.leaves.now.lists c.args.spot.list c.args.spot.at c.requires.item c.item_mut.result.now c.call_for.new.entry c.item_mut.ensures.value c.call_for.ensures.same
    c.take_at-entry.new.leaves.lists c.take_at-entry.ensures.removed c.take_at-entry.result.1.list c.take_at-entry.result.1.at c.take_at-entry.ensures.place
    (rw c.if-call_for.false at c.call_for.ensures.called)

pub returns-clause-count : goal.returns-clause-count
returns-clause-count g c =
    cut-count (goal.F-step g) c.args.f.now c.call_for.new.f c.args.leaves.now.lists c.args.spot.list c.args.spot.at c.requires.item c.item_mut.result.now c.call_for.new.entry c.item_mut.ensures.value c.call_for.ensures.same
    c.take_at-entry.new.leaves.lists c.take_at-entry.ensures.removed
