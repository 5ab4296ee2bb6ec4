use Rattle.std.proofs.Common.{arith, ap, length}
use Rattle.aa_ordered.proofs.Mending.{over-at}
use Rattle.aa_ordered.proofs.map.spots.settle.Goals as goal

pub returns-clause-item : goal.returns-clause-item
returns-clause-item g c more =
    over-at c.args.leaves.now.lists c.args.spot.list c.args.spot.at c.requires.within (omega (arith, c.if-spot-len.false, c.len.ensures.count))
    (omega (arith, ap length c.list.ensures.list, c.if-spot-list.false)) c.requires.balanced more
