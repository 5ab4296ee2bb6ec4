use Rattle.std.proofs.Common.{ap, arith, length}
use Rattle.aa_ordered.proofs.Mending.{emptied-balanced, emptied-place, emptied-same, emptied-within, next-balanced, next-length, next-place, next-same, next-within, still-balanced}
use Rattle.aa_ordered.proofs.Shifting.{mended-balanced, mended-few, mended-place, mended-same, mended-within}
use Rattle.aa_ordered.proofs.map.spots.mend.Goals as goal

pub join-requires-clause-room : goal.join-requires-clause-room
join-requires-clause-room g c =
    mended-few c.args.leaves.now.lists c.args.spot.list c.requires.list (rw (c.len_before-before.ensures.len, c.list-count.ensures.list) at c.if-before-count-lt-LEAF.true)

pub join-requires-then-count-len_from-lt-LEAF-clause-room : goal.join-requires-then-count-len_from-lt-LEAF-clause-room
join-requires-then-count-len_from-lt-LEAF-clause-room g c =
    let there = c.len_from.ensures.list (omega (arith, c.if-count-len_from-lt-LEAF.true)) in
    omega (arith, ap length c.list-count.ensures.list, c.len_from.ensures.len, next-length c.args.leaves.now.lists c.args.spot.list c.requires.list c.requires.nearly there, c.if-count-len_from-lt-LEAF.true)

pub returns-then-count-eq0-clause-same : goal.returns-then-count-eq0-clause-same
returns-then-count-eq0-clause-same g c =
    rw (c.drop_list.ensures) (emptied-same c.args.leaves.now.lists c.args.spot.list c.requires.list c.requires.nearly (rw c.list-count.ensures.list at c.if-count-eq0.true))

pub returns-then-count-eq0-clause-balanced : goal.returns-then-count-eq0-clause-balanced
returns-then-count-eq0-clause-balanced g c =
    rw (c.drop_list.ensures) (emptied-balanced c.args.leaves.now.lists c.args.spot.list c.requires.list c.requires.nearly (rw c.list-count.ensures.list at c.if-count-eq0.true))

pub returns-then-before-count-lt-LEAF-clause-same : goal.returns-then-before-count-lt-LEAF-clause-same
returns-then-before-count-lt-LEAF-clause-same g c =
    rw (c.join.ensures) (mended-same c.args.leaves.now.lists c.args.spot.list c.requires.list (c.len_before-before.ensures.list (omega (arith, c.if-before-count-lt-LEAF.true))) c.requires.nearly)

pub returns-then-before-count-lt-LEAF-clause-balanced : goal.returns-then-before-count-lt-LEAF-clause-balanced
returns-then-before-count-lt-LEAF-clause-balanced g c =
    rw (c.join.ensures) (mended-balanced c.args.leaves.now.lists c.args.spot.list c.requires.list (c.len_before-before.ensures.list (omega (arith, c.if-before-count-lt-LEAF.true))) c.requires.nearly)

pub returns-then-count-len_from-lt-LEAF-clause-same : goal.returns-then-count-len_from-lt-LEAF-clause-same
returns-then-count-len_from-lt-LEAF-clause-same g c =
    let there = c.len_from.ensures.list (omega (arith, c.if-count-len_from-lt-LEAF.true)) in
    rw (c.join-then-count-len_from-lt-LEAF.ensures) (next-same c.args.leaves.now.lists c.args.spot.list c.requires.list c.requires.nearly there)

pub returns-then-count-len_from-lt-LEAF-clause-balanced : goal.returns-then-count-len_from-lt-LEAF-clause-balanced
returns-then-count-len_from-lt-LEAF-clause-balanced g c =
    let there = c.len_from.ensures.list (omega (arith, c.if-count-len_from-lt-LEAF.true)) in
    rw (c.join-then-count-len_from-lt-LEAF.ensures) (next-balanced c.args.leaves.now.lists c.args.spot.list c.requires.list c.requires.nearly there)

pub returns-else-count-len_from-lt-LEAF-clause-balanced : goal.returns-else-count-len_from-lt-LEAF-clause-balanced
returns-else-count-len_from-lt-LEAF-clause-balanced g c =
    let n = ap length c.list-count.ensures.list in
    still-balanced c.args.leaves.now.lists c.args.spot.list c.requires.list c.requires.nearly (omega (arith, n, c.if-count-eq0.false))
    (omega (arith, n, c.len_before-before.ensures.len, c.if-before-count-lt-LEAF.false)) (omega (arith, n, c.len_from.ensures.len, c.if-count-len_from-lt-LEAF.false))

pub returns-then-before-count-lt-LEAF-clause-within : goal.returns-then-before-count-lt-LEAF-clause-within
returns-then-before-count-lt-LEAF-clause-within g c =
    rw (c.join.ensures, c.len_before-before.ensures.len)
    (mended-within c.args.leaves.now.lists c.args.spot.list c.requires.list (c.len_before-before.ensures.list (omega (arith, c.if-before-count-lt-LEAF.true))) c.args.spot.at c.requires.within)

pub returns-then-before-count-lt-LEAF-clause-place : goal.returns-then-before-count-lt-LEAF-clause-place
returns-then-before-count-lt-LEAF-clause-place g c =
    rw (c.join.ensures, c.len_before-before.ensures.len)
    (mended-place c.args.leaves.now.lists c.args.spot.list c.requires.list (c.len_before-before.ensures.list (omega (arith, c.if-before-count-lt-LEAF.true))) c.args.spot.at c.requires.within)

pub returns-then-count-eq0-clause-within : goal.returns-then-count-eq0-clause-within
returns-then-count-eq0-clause-within g c = emptied-within c.args.leaves.now.lists c.args.spot.list c.requires.list c.args.spot.at c.requires.within (rw c.list-count.ensures.list at c.if-count-eq0.true) _

pub returns-then-count-eq0-clause-place : goal.returns-then-count-eq0-clause-place
returns-then-count-eq0-clause-place g c = rw (c.drop_list.ensures) (emptied-place c.args.leaves.now.lists c.args.spot.list c.requires.list c.args.spot.at c.requires.within)

pub returns-then-count-len_from-lt-LEAF-clause-within : goal.returns-then-count-len_from-lt-LEAF-clause-within
returns-then-count-len_from-lt-LEAF-clause-within g c = rw (c.join-then-count-len_from-lt-LEAF.ensures) (next-within c.args.leaves.now.lists c.args.spot.list c.requires.list c.args.spot.at c.requires.within)

pub returns-then-count-len_from-lt-LEAF-clause-place : goal.returns-then-count-len_from-lt-LEAF-clause-place
returns-then-count-len_from-lt-LEAF-clause-place g c = rw (c.join-then-count-len_from-lt-LEAF.ensures) (next-place c.args.leaves.now.lists c.args.spot.list c.requires.list c.args.spot.at c.requires.within)
