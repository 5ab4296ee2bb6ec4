use Rattle.aa_vec.proofs.{CallableAtMut, CalledAtMut, CallsUntil-here, HasCalled-more, KeepsWhen, arith}
use Rattle.aa_vec.proofs.vec.retain.count_kept.Goals as goal

pub returns-then-not-call_keeps-3 : goal.returns-then-not-call_keeps-3
returns-then-not-call_keeps-3 g c =
    CallsUntil-here (KeepsWhen c.args.keep_when (CalledAtMut g.F.FnMut))
    (CallableAtMut g.F.FnMut) c.each.invariant _
    (omega (arith, c.each-test.true, c.each.auto.elements)) c.call_keeps-in-each.ensures
    c.if-not-call_keeps-3.true

pub each-preserved : goal.each-preserved
each-preserved g c = HasCalled-more (KeepsWhen c.args.keep_when (CalledAtMut g.F.FnMut))
    (CallableAtMut g.F.FnMut) c.each.invariant _
    (omega (arith, c.each-test.true, c.each.auto.elements)) c.call_keeps-in-each.ensures
    c.if-not-call_keeps-3.false
