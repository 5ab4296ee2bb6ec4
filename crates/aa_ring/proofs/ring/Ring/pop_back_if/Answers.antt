use Rattle.std.proofs.Common.{◌-◌, arith}
use Rattle.aa_ring.proofs.Popping.{last-goes, last-stays}
use Rattle.aa_ring.proofs.ring.Ring.pop_back_if.Goals as goal

pub returns-then-call_on : goal.returns-then-call_on
returns-then-call_on g c =
    last-goes g.P.FnOnce c.args.predicate c.args.self.now c.item_mut.result.now c.call_on.new.item (c.len-len.result - 1) c.pop_back.result c.pop_back.new.self (omega (arith, c.len-len.ensures.count, c.if-len-eq0.false)) c.item_mut.ensures.value (rw c.if-call_on.true at c.call_on.ensures) c.pop_back.ensures.taken c.pop_back.ensures.kept

pub returns : goal.returns
returns g c = last-stays g.P.FnOnce c.args.predicate c.args.self.now c.item_mut.result.now c.call_on.new.item (c.len-len.result - 1) (omega (arith, c.len-len.ensures.count, c.if-len-eq0.false)) c.item_mut.ensures.value (rw c.if-call_on.false at c.call_on.ensures)
