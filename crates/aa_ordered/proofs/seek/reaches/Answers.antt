use Rattle.std.proofs.Common.{arith, sym, ◌∙◌, ◌+◌}
use Rattle.aa_ordered.proofs.Order.{greater-from, less-before, less-through}
use Rattle.aa_ordered.proofs.Stepping.{less-fewer}
use Rattle.aa_ordered.proofs.seek.reaches.Goals as goal

pub returns-in-Less-clause-after : goal.returns-in-Less-clause-after
returns-in-Less-clause-after g c _ = greater-from (record { less = g.met.Q.Lookup.less_after c.args.key; equal = g.met.Q.Lookup.like_equal c.args.key }) c.args.entries.now c.args.at c.index-entries-at.result c.requires.within c.requires.ordered (sym c.compare.ensures ∙ c.in-Less.is)

pub returns-in-Equal-clause-before : goal.returns-in-Equal-clause-before
returns-in-Equal-clause-before g c _ = less-before (record { less = g.met.Q.Lookup.less_after c.args.key; equal = g.met.Q.Lookup.like_equal c.args.key }) c.args.entries.now c.args.at c.index-entries-at.result c.requires.within c.requires.ordered (sym c.compare.ensures ∙ c.in-Equal.is)

pub returns-in-Greater-clause-before : goal.returns-in-Greater-clause-before
returns-in-Greater-clause-before g c _ = less-fewer (g.Q.Lookup.order c.args.key) c.args.entries.now c.args.at (c.args.at + 1) (omega arith) (less-through (record { less = g.met.Q.Lookup.less_after c.args.key; equal = g.met.Q.Lookup.like_equal c.args.key }) c.args.entries.now c.args.at c.index-entries-at.result c.requires.within c.requires.ordered (sym c.compare.ensures ∙ c.in-Greater.is))
