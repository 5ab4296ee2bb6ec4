use Rattle.std.proofs.Common.{arith}
use Rattle.aa_ordered.proofs.Shifting.{shifted-few, shifted-first, shifted-second, shifted-some}
use Rattle.aa_ordered.proofs.map.spots.shift_back.Goals as goal

pub share-k-requires-clause-few : goal.share-k-requires-clause-few
share-k-requires-clause-few g c = rw c.list-count.ensures.list (shifted-few c.args.leaves.now.lists c.args.spot.list c.requires.list c.requires.before)

pub share-k-requires-clause-some : goal.share-k-requires-clause-some
share-k-requires-clause-some g c = rw c.len_from.ensures.len (shifted-some c.args.leaves.now.lists c.args.spot.list c.requires.list c.requires.before c.requires.balanced)

pub returns-then-spot-k-clause-moved : goal.returns-then-spot-k-clause-moved
returns-then-spot-k-clause-moved g c =
    rw (c.shift_back.ensures, c.list-count.ensures.list)
    (shifted-first c.args.leaves.now.lists c.args.spot.list c.requires.list c.requires.before c.requires.balanced c.requires.full c.share-k.result c.share-k.ensures.some
    (rw c.list-count.ensures.list at c.share-k.ensures.half) (rw c.len_from.ensures.len at c.share-k.ensures.most) c.args.spot.at c.if-spot-k.true)

pub returns-else-spot-k-clause-moved : goal.returns-else-spot-k-clause-moved
returns-else-spot-k-clause-moved g c =
    rw (c.shift_back.ensures)
    (shifted-second c.args.leaves.now.lists c.args.spot.list c.requires.list c.requires.before c.requires.balanced c.requires.full c.share-k.result c.share-k.ensures.some
    (rw c.list-count.ensures.list at c.share-k.ensures.half) (rw c.len_from.ensures.len at c.share-k.ensures.most) c.args.spot.at (omega (arith, c.if-spot-k.false)) c.requires.within)
