use Rattle.std.proofs.Common.{arith, ◌/◌}
use Rattle.aa_ordered.proofs.Stepping.{greater-three, less-three}
use Rattle.aa_ordered.proofs.seek.step.Goals as goal

pub returns-clause-before : goal.returns-clause-before
returns-clause-before g c = less-three (g.Q.Lookup.order c.args.key) c.args.entries.now c.args.low (c.args.count / 4) _ _ _ c.reaches-first.ensures.one c.reaches-second.ensures.one c.reaches-third.ensures.one c.requires.before c.reaches-first.ensures.before c.reaches-second.ensures.before c.reaches-third.ensures.before

pub returns-clause-after : goal.returns-clause-after
returns-clause-after g c = greater-three (g.Q.Lookup.order c.args.key) c.args.entries.now c.args.low (c.args.count / 4) c.args.count _ _ _ (omega arith) c.requires.after c.reaches-first.ensures.after c.reaches-second.ensures.after c.reaches-third.ensures.after
