use Rattle.allocator_api2.proofs.Common.{arith, CalledAtMut, CallableAtMut}
use Rattle.allocator_api2.proofs.ExtractParts.{TakesUpTo-end, TakesUpTo-all}
use Rattle.allocator_api2.proofs.runner.extracting.take_chosen.Goals as goal

pub returns-in-None : goal.returns-in-None
returns-in-None g c =
    TakesUpTo-end (CalledAtMut g.K.FnMut) (CallableAtMut g.K.FnMut) c.args.keep.now c.args.range.now
    c.args.side.now c.each._taken c.each.keep c.next_by.new.f c.each.range c.next_by.new.self
    c.each.side c.each.invariant
    c.args.most (omega (arith, c.each-test.true)) c.in-None.ensures

pub returns : goal.returns
returns g c =
    TakesUpTo-all (CalledAtMut g.K.FnMut) (CallableAtMut g.K.FnMut) c.args.keep.now c.args.range.now
    c.args.side.now c.each._taken c.args.most c.each.keep c.each.range c.each.side
    c.each.invariant
    (omega (arith, c.each.auto._taken-end)) (omega (arith, c.each-test.false))
