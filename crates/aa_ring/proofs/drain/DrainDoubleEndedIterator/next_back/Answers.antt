use Rattle.std.proofs.Common.{arith}
use Rattle.aa_ring.proofs.Draining.{steps-last}
use Rattle.aa_ring.proofs.drain.DrainDoubleEndedIterator.next_back.Goals as goal

pub returns-clause-steps : goal.returns-clause-steps
returns-clause-steps g c =
    steps-last c.args.self.now c.pop_back-2.new.self c.exchange.new.self c.exchange.result c.in-Some.last c.saturating_sub-kept.result c.turned_on-self.result c.if-self-eq0.false (omega (arith, c.len.ensures.count, c.saturating_sub-kept.ensures)) c.if-kept-eq0.false c.in-Some.ensures.taken c.pop_back-2.ensures.kept c.turned_on-self.ensures c.exchange.ensures.value c.exchange.ensures.replaced
