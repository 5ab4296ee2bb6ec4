use Rattle.std.proofs.Common.{arith}
use Rattle.aa_ordered.proofs.Moving.{half-first, half-second}
use Rattle.aa_ordered.proofs.map.spots.split.Goals as goal

pub returns-then-spot-le-HALF-clause-moved : goal.returns-then-spot-le-HALF-clause-moved
returns-then-spot-le-HALF-clause-moved g c =
    rw (c.split.ensures) (half-first c.args.leaves.now.lists c.args.spot.list c.requires.list c.requires.balanced c.requires.full c.requires.before c.requires.after c.args.spot.at c.if-spot-le-HALF.true)

pub returns-else-spot-le-HALF-clause-moved : goal.returns-else-spot-le-HALF-clause-moved
returns-else-spot-le-HALF-clause-moved g c =
    rw (c.split.ensures) (half-second c.args.leaves.now.lists c.args.spot.list c.requires.list c.requires.balanced c.requires.full c.requires.before c.requires.after c.args.spot.at (omega (arith, c.if-spot-le-HALF.false)) c.requires.within)
