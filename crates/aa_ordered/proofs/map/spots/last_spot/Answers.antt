use Rattle.std.proofs.Common.{arith}
use Rattle.aa_ordered.proofs.Ends.{last-at, last-position, last-some}
use Rattle.aa_ordered.proofs.map.spots.last_spot.Goals as goal

pub overflow_sub-at : goal.overflow_sub-at
overflow_sub-at g c = rw c.list.ensures.list (last-some c.args.leaves.now.lists c.requires c.len-count.result c.len-count.ensures.count (omega (arith, c.if-count-eq0.false)))

pub returns-clause-item : goal.returns-clause-item
returns-clause-item g c = rw c.list.ensures.list (last-at c.args.leaves.now.lists c.requires c.len-count.result c.len-count.ensures.count (omega (arith, c.if-count-eq0.false)))

pub returns-clause-last : goal.returns-clause-last
returns-clause-last g c = rw c.list.ensures.list (last-position c.args.leaves.now.lists c.requires c.len-count.result c.len-count.ensures.count (omega (arith, c.if-count-eq0.false)))
