use Rattle.std.proofs.Common.{arith, sym, ◌∙◌}
use Rattle.aa_ordered.proofs.Order.{greater-from, less-through}
use Rattle.aa_ordered.proofs.seek.seek.Goals as goal

pub returns-in-Less-clause-absent : goal.returns-in-Less-clause-absent
returns-in-Less-clause-absent g c = record {
  within = omega (arith, c.last_reached-at.ensures.within);
  before = c.last_reached-at.ensures.before;
  after = greater-from (record { less = g.met.Q.Lookup.less_after c.args.key; equal = g.met.Q.Lookup.like_equal c.args.key }) c.args.entries.now c.last_reached-at.result c.index-entries-at.result c.last_reached-at.ensures.within c.requires (sym c.compare.ensures ∙ c.in-Less.is);
}

pub returns-in-Greater-clause-absent : goal.returns-in-Greater-clause-absent
returns-in-Greater-clause-absent g c = record {
  within = omega (arith, c.last_reached-at.ensures.within);
  before = less-through (record { less = g.met.Q.Lookup.less_after c.args.key; equal = g.met.Q.Lookup.like_equal c.args.key }) c.args.entries.now c.last_reached-at.result c.index-entries-at.result c.last_reached-at.ensures.within c.requires (sym c.compare.ensures ∙ c.in-Greater.is);
  after = c.last_reached-at.ensures.after;
}
