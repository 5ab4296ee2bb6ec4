use Rattle.std.proofs.Common.{arith}
use Rattle.aa_ordered.proofs.Moving.{on-first, on-second}
use Rattle.aa_ordered.proofs.Shifting.{next-few, next-some, next-there}
use Rattle.aa_ordered.proofs.map.spots.shift_on.Goals as goal

pub share-k-requires-clause-few : goal.share-k-requires-clause-few
share-k-requires-clause-few g c = rw c.list-count.ensures.list (next-few c.args.leaves.now.lists c.args.spot.list c.requires.after)

pub share-k-requires-clause-some : goal.share-k-requires-clause-some
share-k-requires-clause-some g c = rw c.len_before.ensures.len (next-some c.args.leaves.now.lists c.args.spot.list c.requires.list c.requires.balanced)

pub returns-then-spot-kept-clause-moved : goal.returns-then-spot-kept-clause-moved
returns-then-spot-kept-clause-moved g c =
    rw (c.shift.ensures)
    (on-first c.args.leaves.now.lists c.args.spot.list (next-there c.args.leaves.now.lists c.args.spot.list c.requires.after) c.requires.balanced c.requires.full c.share-k.result c.share-k.ensures.some
    (rw c.list-count.ensures.list at c.share-k.ensures.half) (rw c.len_before.ensures.len at c.share-k.ensures.most) c.args.spot.at (omega (arith, c.if-spot-kept.true)))

pub returns-else-spot-kept-clause-moved : goal.returns-else-spot-kept-clause-moved
returns-else-spot-kept-clause-moved g c =
    rw (c.shift.ensures)
    (on-second c.args.leaves.now.lists c.args.spot.list (next-there c.args.leaves.now.lists c.args.spot.list c.requires.after) c.requires.balanced c.requires.full c.share-k.result c.share-k.ensures.some
    (rw c.list-count.ensures.list at c.share-k.ensures.half) (rw c.len_before.ensures.len at c.share-k.ensures.most) c.args.spot.at (omega (arith, c.if-spot-kept.false)) c.requires.within)
