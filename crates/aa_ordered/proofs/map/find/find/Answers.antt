use Rattle.std.proofs.Common.{arith}
use Rattle.aa_ordered.proofs.Placing.{found-joined, gap-joined, ordered-list}
use Rattle.aa_ordered.proofs.map.find.find.Goals as goal

pub seek-requires : goal.seek-requires
seek-requires g c = rw c.list.ensures.list (ordered-list (record { less = g.met.Q.Lookup.less_after c.args.key; equal = g.met.Q.Lookup.like_equal c.args.key }) c.args.leaves.now.lists c.requires.ordered _ (omega (arith, c.if-list-len.false, c.len.ensures.count)))

pub returns-in-Ok-clause-found : goal.returns-in-Ok-clause-found
returns-in-Ok-clause-found g c = found-joined (record { less = g.met.Q.Lookup.less_after c.args.key; equal = g.met.Q.Lookup.like_equal c.args.key }) c.args.leaves.now.lists c.requires.ordered _ (omega (arith, c.if-list-len.false, c.len.ensures.count)) c.list_for-list.ensures.place c.in-Ok.at (rw c.list.ensures.list at c.in-Ok.ensures.found)

pub returns-in-Err-clause-absent : goal.returns-in-Err-clause-absent
returns-in-Err-clause-absent g c = gap-joined (record { less = g.met.Q.Lookup.less_after c.args.key; equal = g.met.Q.Lookup.like_equal c.args.key }) c.args.leaves.now.lists c.requires.ordered _ (omega (arith, c.if-list-len.false, c.len.ensures.count)) c.list_for-list.ensures.place c.in-Err.at (rw c.list.ensures.list at c.in-Err.ensures.absent)
