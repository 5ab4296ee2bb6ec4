use Rattle.std.proofs.Common.{◌<◌, length, arith}
use Rattle.std.specs.Fn.{CalledAtMut}
use Rattle.allocator_api2.specs.Choosing.{CallableAtMut}
use Rattle.aa_ring.proofs.Retaining.{may-next, next-kept, next-passed, room, some-left, turned}
use Rattle.aa_ring.proofs.ring.Ring.retain_by.Goals as goal
use Rattle.aa_ring.proofs.ring.Ring.retain_by.Goals.{then-call_on, else-call_on}

pub call_on-requires : goal.call_on-requires
call_on-requires g c =
    may-next (CalledAtMut g.F.FnMut) (CallableAtMut g.F.FnMut) c.args.keep.now c.args.self.now c.each._done c.each.keep c.each.self c.pop_front.new.self c.each.invariant c.in-Some.item (omega (arith, c.each-test.true, c.len-done-end.ensures.count)) c.in-Some.ensures.taken c.pop_front.ensures.kept

pub each-preserved : goal.each-preserved
each-preserved g c =
    let few : c.each._done < length c.args.self.now.items = omega (arith, c.each-test.true, c.len-done-end.ensures.count) in
    elim c.if-call_on.branch [
      | then-call_on w ↦ rw (w.self-is) (next-kept (CalledAtMut g.F.FnMut) (CallableAtMut g.F.FnMut) c.args.keep.now c.args.self.now c.each._done c.each.keep c.each.self c.pop_front.new.self c.each.invariant c.in-Some.item few c.in-Some.ensures.taken c.pop_front.ensures.kept c.call_on.new.keep c.call_on.new.item w.put_back.new.self (rw w.if-call_on.true at c.call_on.ensures) w.put_back.ensures)
      | else-call_on w ↦ rw (w.self-is) (next-passed (CalledAtMut g.F.FnMut) (CallableAtMut g.F.FnMut) c.args.keep.now c.args.self.now c.each._done c.each.keep c.each.self c.pop_front.new.self c.each.invariant c.in-Some.item few c.in-Some.ensures.taken c.pop_front.ensures.kept c.call_on.new.keep c.call_on.new.item (rw w.if-call_on.false at c.call_on.ensures))
    ]

pub put_back-requires : goal.put_back-requires
put_back-requires g c =
    room (CalledAtMut g.F.FnMut) (CallableAtMut g.F.FnMut) c.args.keep.now c.args.self.now c.each._done c.each.keep c.each.self c.pop_front.new.self c.each.invariant c.in-Some.item (omega (arith, c.each-test.true, c.len-done-end.ensures.count)) c.in-Some.ensures.taken c.pop_front.ensures.kept
    (omega (arith, c.len-done-end.ensures.count, c.len-done-end.ensures.within))

pub unreachable-requires : goal.unreachable-requires
unreachable-requires g c =
    some-left (CalledAtMut g.F.FnMut) (CallableAtMut g.F.FnMut) c.args.keep.now c.args.self.now c.each._done c.each.keep c.each.self c.each.invariant (omega (arith, c.each-test.true, c.len-done-end.ensures.count)) c.in_default.ensures.taken.0

pub returns : goal.returns
returns g c =
    turned (CalledAtMut g.F.FnMut) (CallableAtMut g.F.FnMut) c.args.keep.now c.args.self.now c.each._done c.each.keep c.each.self c.each.invariant (omega (arith, c.each-test.false, c.len-done-end.ensures.count))
