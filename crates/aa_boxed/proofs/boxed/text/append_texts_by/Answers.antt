use Rattle.aa_boxed.proofs.{Joining-next, Joining-fails, StringReserveFails, arith, length, subst}
use Rattle.aa_boxed.proofs.boxed.text.append_texts_by.Goals as goal

pub loop-next-preserved : goal.loop-next-preserved
loop-next-preserved g c =
    let i = c.loop-next.invariant in let on = c.in-Some.ensures.goes.on i.finite in
    let put = c.in-Ok.ensures in
    record {
      can = on.0;
      finite = on.1;
      joining = Joining-next _ _ _ _ _ i.joining c.in-Some.next _ c.in-Some.ensures.steps _ _
          c.as_str.ensures put.appended put.capacity;
      never_shrinks = omega (arith, i.never_shrinks, put.never_shrinks);
      nearer = omega (arith, i.nearer, on.2);
    }

pub returns-in-Err-clause-failed : goal.returns-in-Err-clause-failed
returns-in-Err-clause-failed g c =
    let e = c.in-Err.ensures in
    Joining-fails _ _ _ _ _ c.loop-next.invariant.joining c.in-Some.next _ c.in-Some.ensures.steps _
    e.unchanged e.same_capacity c.in-Err.error
    (subst (λ bs. StringReserveFails c.append_text.new.text (length bs) c.in-Err.error)
    c.as_str.ensures e.error)
