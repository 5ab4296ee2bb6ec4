use Rattle.aa_boxed.proofs.{size, type_size}
use Rattle.aa_boxed.proofs.Coming.{Coming}
use Rattle.aa_boxed.proofs.boxed.slice.BoxedSlice.from_iter_in_by.Given as goal

abbrev pub invariant-loop-x : goal.invariant-loop-x
invariant-loop-x g l = record {
  can : (goal.iterator-loop-x g).can_next l.iter;
  finite : (goal.iterator-loop-x g).is_finite l.iter;
  coming : Coming g.I.Iterator.next_gives (λ s. size (g.I.Iterator.remaining s))
      (type_size g.row.T) l.fn.iter l.fn.alloc l.iter l.builder;
}
