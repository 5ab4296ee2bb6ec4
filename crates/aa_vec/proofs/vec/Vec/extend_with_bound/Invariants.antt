use Rattle.aa_vec.proofs.{IsFinite, Placing, len, size, type_size, ◌+◌, ◌≤◌}
use Rattle.aa_vec.proofs.vec.Vec.extend_with_bound.Given as goal

abbrev pub invariant-full : goal.invariant-full
invariant-full g l = record {
  can : g.I.Iterator.can_next l.iter;
  finite : IsFinite (g.I.Iterator.remaining l.iter);
  placing : Placing g.I.Iterator.next_gives g.W.LowerBound.lower_is
      (type_size g.row.T) l.fn.iter l.fn.self l.iter l.self;
  fewer : len l.self + size (g.I.Iterator.remaining l.iter)
      ≤ len l.fn.self + size (g.I.Iterator.remaining l.fn.iter);
}

abbrev pub decreases-full : goal.decreases-full
decreases-full g l = size (g.I.Iterator.remaining l.iter)
