use Rattle.std.proofs.Common.{arith}
use Rattle.aa_table.proofs.Naming.{taken-near}
use Rattle.aa_table.proofs.slots.put.Goals as goal

pub returns-in-Some-clause-index : goal.returns-in-Some-clause-index
returns-in-Some-clause-index c = λ hs index.
    let spot = c.in-Some.ensures.some in
    rw c.tag.ensures (taken-near c.args.tags.now c.args.overflows.now hs c.in-Some.slot c.args.hash (omega (arith, spot.1, c.home-from.ensures.within)) index
    (omega (arith, spot.0, c.home-from.ensures.value)) (omega (arith, spot.1, c.home-from.ensures.value)))
