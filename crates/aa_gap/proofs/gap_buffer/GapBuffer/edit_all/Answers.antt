use Rattle.aa_gap.proofs.{Made-more, Yields, Yields-more, [], err_from_is_err_and, rules, ◌++◌, ◌∷◌}
use Rattle.aa_gap.proofs.gap_buffer.GapBuffer.edit_all.Goals as goal

pub loop-edit-preserved : goal.loop-edit-preserved
loop-edit-preserved g c =
    let made = Made-more _ _ _ _ _ _ c.loop-edit.invariant.made c.in_ok-edit.ensures.edited in
    search rules

pub returns-in_err-edit-clause-failed : goal.returns-in_err-edit-clause-failed
returns-in_err-edit-clause-failed g c =
    let p = err_from_is_err_and c.from_residual.result c.from_residual.ensures.1 in
    let r = c.in_err-edit.ensures in
    let came : Yields g.I.Iterator.next_gives c.args.edits.now
    (c.loop-edit.yielded ++ c.in-Some.edit ∷ []) c.next.new.self =
    Yields-more g.I.Iterator.next_gives c.args.edits.now c.loop-edit.yielded c.loop-edit.edits
    c.in-Some.edit c.next.new.self c.loop-edit.yielded_by c.in-Some.ensures.steps in
    rw (p.1, p.2) (record {
      edits = c.loop-edit.yielded;
      item = r.only_inserts.0;
      yields = rw r.only_inserts.1 at came;
      done = rw r.unchanged c.loop-edit.invariant.made.done;
      cause = rw r.unchanged r.error;
    })
