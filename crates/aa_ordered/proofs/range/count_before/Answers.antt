use Rattle.std.proofs.Common.{◌≡◌, ◌≤◌, arith, length}
use Rattle.aa_ordered.specs.Ranges.{is_before}
use Rattle.aa_ordered.proofs.Ranging.{all-after, all-before}
use Rattle.aa_ordered.proofs.range.count_before.Goals as goal

pub returns-clause-before : goal.returns-clause-before
returns-clause-before g c =
    let within : c.loop-low.low ≤ length c.args.entries.now = omega (arith, c.loop-low.invariant.ordered, c.loop-low.invariant.within) in
    all-before (is_before g.K.Ord.cmp c.args.key.now c.args.after) c.args.entries.now c.loop-low.low within c.requires c.loop-low.invariant.before

pub returns-clause-after : goal.returns-clause-after
returns-clause-after g c =
    let same : c.loop-low.high ≡ c.loop-low.low = omega (arith, c.loop-low.invariant.ordered, c.loop-low-test.false) in
    all-after (is_before g.K.Ord.cmp c.args.key.now c.args.after) c.args.entries.now c.loop-low.low c.requires (rw same at c.loop-low.invariant.after)
