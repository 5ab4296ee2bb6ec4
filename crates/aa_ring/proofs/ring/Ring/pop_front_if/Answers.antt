use Rattle.aa_ring.proofs.Popping.{first-goes, first-stays}
use Rattle.aa_ring.proofs.ring.Ring.pop_front_if.Goals as goal

pub returns-then-call_on : goal.returns-then-call_on
returns-then-call_on g c =
    first-goes g.P.FnOnce c.args.predicate c.args.self.now c.item_mut.result.now c.call_on.new.item c.pop_front.result c.pop_front.new.self c.item_mut.ensures.value (rw c.if-call_on.true at c.call_on.ensures) c.pop_front.ensures.taken c.pop_front.ensures.kept

pub returns : goal.returns
returns g c = first-stays g.P.FnOnce c.args.predicate c.args.self.now c.item_mut.result.now c.call_on.new.item c.item_mut.ensures.value (rw c.if-call_on.false at c.call_on.ensures)
