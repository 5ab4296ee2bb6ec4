use Rattle.aa_ring.proofs.Draining.{steps-first}
use Rattle.aa_ring.proofs.drain.DrainIterator.next.Goals as goal

pub returns-clause-steps : goal.returns-clause-steps
returns-clause-steps g c = steps-first c.args.self.now c.pop_front.result c.pop_front.new.self c.if-self-eq0.false c.pop_front.ensures.taken c.pop_front.ensures.kept
