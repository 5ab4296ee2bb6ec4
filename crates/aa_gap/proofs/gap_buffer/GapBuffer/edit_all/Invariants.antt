use Rattle.aa_gap.proofs.{Made, type_size}
use Rattle.aa_gap.proofs.gap_buffer.GapBuffer.edit_all.Given as goal

abbrev pub invariant-loop-edit : goal.invariant-loop-edit
invariant-loop-edit g l = record {
  can : (goal.iterator-loop-edit g).can_next l.edits;
  finite : (goal.iterator-loop-edit g).is_finite l.edits;
  made : Made (type_size g.row.T) l.fn.self l.yielded l.self;
}
