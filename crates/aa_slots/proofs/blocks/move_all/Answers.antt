use Rattle.aa_slots.proofs.Common.{arith}
use Rattle.aa_slots.proofs.Seen.{held-within, seen-same}
use Rattle.aa_slots.proofs.blocks.move_all.Goals as goal

pub returns-clause-moved : goal.returns-clause-moved
returns-clause-moved g c = seen-same c.args.slots.now _ _ (λ i h.
    c.each.invariant.moved i (omega (arith, c.each-test.false, held-within c.args.slots.now i h)) h)
