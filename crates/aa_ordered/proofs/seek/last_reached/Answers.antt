use Rattle.std.proofs.Common.{arith, ◌+◌}
use Rattle.aa_ordered.proofs.Stepping.{greater-fewer, greater-one, less-one}
use Rattle.aa_ordered.proofs.seek.last_reached.Goals as goal

pub loop-count-preserved : goal.loop-count-preserved
loop-count-preserved g c = record {
  some = omega (arith, c.loop-count-test.true);
  within = omega (arith, c.loop-count-test.true, c.loop-count.invariant.within, c.reaches-low.ensures.one);
  before = less-one (g.Q.Lookup.order c.args.key) c.args.entries.now c.loop-count.low _ c.reaches-low.ensures.one c.loop-count.invariant.before c.reaches-low.ensures.before;
  after = greater-one (g.Q.Lookup.order c.args.key) c.args.entries.now c.loop-count.low _ c.loop-count.count (omega (arith, c.loop-count-test.true)) c.loop-count.invariant.after c.reaches-low.ensures.after;
}

pub returns-clause-after : goal.returns-clause-after
returns-clause-after g c = greater-fewer (g.Q.Lookup.order c.args.key) c.args.entries.now (c.loop-count.low + c.loop-count.count) (c.loop-count.low + 1) (omega (arith, c.loop-count-test.false)) c.loop-count.invariant.after
