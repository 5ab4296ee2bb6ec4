use Rattle.aa_boxed.proofs.{Coming-costs, Coming-ends, Coming-fails, Coming-grown, Coming-there, err_from_is_err_and, finished, inr, fails_at_end, refl, shrunk, type_size, whole_run_of, ◌∙◌}
use Rattle.aa_boxed.proofs.boxed.slice.BoxedSlice.from_iter_in_by.Goals.{else-is_full, then-is_full+in_ok-reserve}
use Rattle.aa_boxed.proofs.boxed.slice.BoxedSlice.from_iter_in_by.Goals as goal

pub loop-x-preserved : goal.loop-x-preserved
loop-x-preserved g c =
    let i = c.loop-x.invariant in let on = c.in-Some.ensures.goes.on i.finite in
    let f = c.loop-x.builder in
    record {
      can = on.0;
      finite = on.1;
      coming = elim c.if-is_full.branch [
        | then-is_full+in_ok-reserve w ↦
            let r = w.in_ok-reserve.ensures in
            Coming-grown _ _ _ _ _ _ f i.coming c.in-Some.x _ c.in-Some.ensures.steps on.2
            w.if-is_full.ensures.full w.size_hint.result.0 w.saturating_add.result
            (w.size_hint.ensures.lower on.1) w.saturating_add.ensures r.has_size
            c.if-is_full.builder c.put.new.self (w.builder-is ∙ r.reserved) c.put.ensures
        | else-is_full w ↦ Coming-there _ _ _ _ _ _ f i.coming c.in-Some.x _ c.in-Some.ensures.steps
            on.2 c.if-is_full.builder c.put.new.self w.builder-is c.put.ensures
      ];
    }

pub returns-in_err-reserve-clause-failed : goal.returns-in_err-reserve-clause-failed
returns-in_err-reserve-clause-failed g c =
    let i = c.loop-x.invariant in let on = c.in-Some.ensures.goes.on i.finite in
    let p = err_from_is_err_and c.from_residual-in_err-reserve.result
    c.from_residual-in_err-reserve.ensures.1 in
    rw (p.1, p.2)
    (Coming-fails _ _ _ _ _ _ c.loop-x.builder i.coming c.in-Some.x _ c.in-Some.ensures.steps on.2
    c.if-is_full.ensures.full g.I.Iterator.remaining c.size_hint.result.0
    c.size_hint.ensures.lower c.saturating_add.result c.saturating_add.ensures _
    c.in_err-reserve.ensures.error)

pub returns-clause-runs : goal.returns-clause-runs
returns-clause-runs g c =
    whole_run_of _ c.loop-x.builder _ _
    (Coming-ends _ _ _ _ _ _ c.loop-x.builder c.loop-x.invariant.coming _
    c.in_default.ensures.steps) c.finish_shrunk.result
    (finished (shrunk (type_size g.row.T) c.loop-x.builder)) refl c.finish_shrunk.ensures.finished

pub returns-clause-failed : goal.returns-clause-failed
returns-clause-failed g c =
    fails_at_end _ c.loop-x.builder _ _
    (Coming-ends _ _ _ _ _ _ c.loop-x.builder c.loop-x.invariant.coming _
    c.in_default.ensures.steps) g.I.Iterator.remaining (type_size g.row.T) _
    (λ e h. inr h) c.finish_shrunk.result c.finish_shrunk.ensures.error

pub returns-clause-advanced : goal.returns-clause-advanced
returns-clause-advanced g c =
    fails_at_end _ c.loop-x.builder _ _
    (Coming-ends _ _ _ _ _ _ c.loop-x.builder c.loop-x.invariant.coming _
    c.in_default.ensures.steps) g.I.Iterator.remaining (type_size g.row.T) _
    (λ e h. inr h) c.finish_shrunk.result c.finish_shrunk.ensures.error

pub returns-clause-grown : goal.returns-clause-grown
returns-clause-grown g c =
    Coming-costs _ _ _ _ _ _ c.loop-x.builder c.loop-x.invariant.coming c.finish_shrunk.result
    c.finish_shrunk.ensures.finished
