use Rattle.aa_boxed.proofs.{Joining, size, string_capacity, ◌≤◌}
use Rattle.aa_boxed.proofs.boxed.text.append_texts_by.Given as goal

abbrev pub invariant-loop-next : goal.invariant-loop-next
invariant-loop-next g l = record {
  can : (goal.iterator-loop-next g).can_next l.iter;
  finite : (goal.iterator-loop-next g).is_finite l.iter;
  joining : Joining g.I.Iterator.next_gives l.fn.iter l.fn.text l.iter l.text;
  never_shrinks : string_capacity l.fn.text ≤ string_capacity l.text;
  nearer : size (g.I.Iterator.remaining l.iter) ≤ size (g.I.Iterator.remaining l.fn.iter);
}
