use Rattle.allocator_api2.proofs.Common.{arith}
use Rattle.allocator_api2.proofs.Taking.{TakesBack-more}
use Rattle.allocator_api2.proofs.runner.draining.take_back.Goals as goal

pub each-preserved : goal.each-preserved
each-preserved g c =
    TakesBack-more c.args.items.now c.args.side.now c.each._taken c.each.items c.next_back.new.self
    c.each.side c.push_within.new.list c.in-Some.item
    (omega (arith, c.each-test.true, c.requires.0)) c.each.invariant c.in-Some.ensures.steps
    c.push_within.ensures
