use Rattle.allocator_api2.proofs.Common.{length, length-drop, ap, arith, drain_remaining}
use Rattle.allocator_api2.proofs.Taking.{TakesFront-more}
use Rattle.allocator_api2.proofs.runner.draining.take_front.Goals as goal

pub unreachable-requires : goal.unreachable-requires
unreachable-requires g c =
    omega (
      arith,
      ap length c.each.invariant.rest,
      length-drop c.each._taken (drain_remaining c.args.items.now),
      ap length c.in-None.ensures.steps.1.0,
      c.requires.0,
      c.each-test.true,
    )

pub each-preserved : goal.each-preserved
each-preserved g c =
    TakesFront-more c.args.items.now c.args.side.now c.each._taken c.each.items c.next.new.self
    c.each.side c.push_within.new.list c.in-Some.item c.each.invariant c.in-Some.ensures.steps
    c.push_within.ensures
