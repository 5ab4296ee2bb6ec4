use Rattle.aa_vec.proofs.Common.{◌+◌, ◌≤◌, size, Placed}
use Rattle.aa_vec.proofs.vec.tail.gap.with_gap_filled.Given as goal

abbrev pub invariant-loop-left : goal.invariant-loop-left
invariant-loop-left g l = record {
  can : (goal.iterator-loop-left g).can_next l.iter;
  finite : (goal.iterator-loop-left g).is_finite l.iter;
  placed : Placed g.I.Iterator.next_gives l.fn.from.0.now l.fn.list l.fn.from.1 l.fn.from.2 l.left
      l.iter l.list;
  fewer : l.fn.from.1 + size (g.I.Iterator.remaining l.iter)
      ≤ l.left + size (g.I.Iterator.remaining l.fn.from.0.now);
}
