use Rattle.std.proofs.Common.{arith, sym, length, ◌∙◌, ◌+◌, ◌-◌, ◌/◌, ◌<◌}
use Rattle.aa_ordered.proofs.Placing.{greater-less, less-equal, less-greater, some-each}
use Rattle.aa_ordered.proofs.map.find.list_for.Goals as goal

pub bounds-list-0 : goal.bounds-list-0
bounds-list-0 g c = rw c.list.ensures.list (some-each c.args.leaves.now.lists _ c.requires.balanced (omega (arith, c.loop-high.invariant.within)))

pub loop-high-preserved-in-Less : goal.loop-high-preserved-in-Less
loop-high-preserved-in-Less g c =
    let h : c.loop-high.low + (c.loop-high.high - c.loop-high.low) / 2 < length c.args.leaves.now.lists = omega (arith, c.loop-high.invariant.within) in
    let n = some-each c.args.leaves.now.lists _ c.requires.balanced h in record {
      apart = omega arith;
      within = omega (arith, c.loop-high.invariant.within);
      before = c.loop-high.invariant.before;
      after = greater-less (record { less = g.met.Q.Lookup.less_after c.args.key; equal = g.met.Q.Lookup.like_equal c.args.key }) c.args.leaves.now.lists c.requires.ordered _ h n c.index-list-0.result (rw c.list.ensures.list at (sym c.compare.ensures ∙ c.in-Less.is));
    }

pub loop-high-preserved-in-Equal : goal.loop-high-preserved-in-Equal
loop-high-preserved-in-Equal g c =
    let h : c.loop-high.low + (c.loop-high.high - c.loop-high.low) / 2 < length c.args.leaves.now.lists = omega (arith, c.loop-high.invariant.within) in
    let n = some-each c.args.leaves.now.lists _ c.requires.balanced h in record {
      apart = omega arith;
      within = c.loop-high.invariant.within;
      before = less-equal (record { less = g.met.Q.Lookup.less_after c.args.key; equal = g.met.Q.Lookup.like_equal c.args.key }) c.args.leaves.now.lists c.requires.ordered _ h n c.index-list-0.result (rw c.list.ensures.list at (sym c.compare.ensures ∙ c.in-Equal.is));
      after = c.loop-high.invariant.after;
    }

pub loop-high-preserved : goal.loop-high-preserved
loop-high-preserved g c =
    let h : c.loop-high.low + (c.loop-high.high - c.loop-high.low) / 2 < length c.args.leaves.now.lists = omega (arith, c.loop-high.invariant.within) in
    let n = some-each c.args.leaves.now.lists _ c.requires.balanced h in record {
      apart = omega arith;
      within = c.loop-high.invariant.within;
      before = less-greater (record { less = g.met.Q.Lookup.less_after c.args.key; equal = g.met.Q.Lookup.like_equal c.args.key }) c.args.leaves.now.lists c.requires.ordered _ h n c.index-list-0.result (rw c.list.ensures.list at (sym c.compare.ensures ∙ c.in-Greater.is));
      after = c.loop-high.invariant.after;
    }
