use Rattle.std.proofs.Common.{◌<◌, length, arith}
use Rattle.std.specs.Fn.{CalledAtMut}
use Rattle.allocator_api2.specs.Choosing.{CallableAtMut}
use Rattle.aa_inline.proofs.Sifting.{may-next, next-kept, next-passed}
use Rattle.aa_inline.proofs.few.Few.retain_by.Goals as goal
use Rattle.aa_inline.proofs.few.Few.retain_by.Goals.{then-call_on, else-call_on}

pub call_on-requires : goal.call_on-requires
call_on-requires g c =
    may-next (CalledAtMut g.F.FnMut) (CallableAtMut g.F.FnMut) c.args.keep.now c.args.self.now c.each.i c.each.kept c.each.keep c.each.self c.each.invariant c.replace-item.result (omega (arith, c.each-test.true, c.len-i-end.ensures.count)) c.replace-item.ensures.old

pub each-preserved : goal.each-preserved
each-preserved g c =
    let few : c.each.i < length c.args.self.now = omega (arith, c.each-test.true, c.len-i-end.ensures.count) in let put = c.replace-item.ensures.replaced in
    let calls = CalledAtMut g.F.FnMut in let takes = CallableAtMut g.F.FnMut in
    elim c.if-call_on.branch [
      | then-call_on w ↦ rw (w.self-is, w.kept-is, w.replace.ensures.replaced, put)
          (next-kept calls takes c.args.keep.now c.args.self.now c.each.i c.each.kept c.each.keep c.each.self c.each.invariant c.replace-item.result few c.replace-item.ensures.old c.call_on.new.f c.call_on.new.item c.made_with.result (rw w.if-call_on.true at c.call_on.ensures))
      | else-call_on w ↦ rw (w.self-is, w.kept-is, put)
          (next-passed calls takes c.args.keep.now c.args.self.now c.each.i c.each.kept c.each.keep c.each.self c.each.invariant c.replace-item.result few c.replace-item.ensures.old c.call_on.new.f c.call_on.new.item c.made_with.result (rw w.if-call_on.false at c.call_on.ensures))
    ]
