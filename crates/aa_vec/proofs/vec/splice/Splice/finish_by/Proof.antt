-- `finish_by` passes the reference and the iterator on to `finish_parts`, for good: so it owes no
-- splice at the return.
use Rattle.aa_vec.proofs.Walks.{vals, agg, owned, refl, List, [], ◌∷◌, ◌++◌, Args, dcons, dnil, a_type, inst_fn, Val, sep, id⊢, ftrue, ‵, raw, ◌⊛◌, some, later, ◌$◌, ◌∵◌, !, qed, move, keep, use1, group, split, join, fjoin, fsplit, pick, await, suffices, done, whole, sub, enter, stop, fld, of_opd, addr, and_then, no_more, returns, alloc_all, pass_all, free_all, look_at, get, get_in, through, sets, lands_as, fact, tables, bounded, owns, nothing, heard, fields, calls_at, Ended, lasts, alive, triple_of, framed, Stays, walk_of, ends_at, ◌≡◌}
use Rattle.aa_vec.proofs.SpliceFields.{SProp, regoal, prop, at, Is, shows, peeks, at_exit, WpFn, proved_at, only_said, goes, IsFinite, Vector, Decl, Row, words, word, Fits, opened, asks, Answer, answer_laws}
use Rattle.aa_vec.proofs.DrainFields.{Gap, GapDecl, GapLws, gap_makes}
use Rattle.aa_vec.proofs.Common.{row, run, vint, w64}
use Rattle.aa_vec.specs.contracts.vec.splice.Splice.finish_by as f
use Rattle.aa_vec.proofs.vec.splice.Splice.finish_by.Statement.{statement}
use Rattle.aa_vec.proofs.vec.splice.Splice.finish_by.Code as code
use Rattle.aa_vec.specs.contracts.vec.splice.Splice.finish_parts as g
use Rattle.aa_vec.proofs.vec.splice.Splice.finish_parts.Met.{met}

pub finish_by_spec : {M : Type 1} → statement M
unfolding run
finish_by_spec 𝓤 𝓛 𝓜 𝓡 wired I A X W LI LA LX LW gI dI gA dA gC dC dropI dropA dropX gW dW metI metA
    metC metDropI metDropA metDropX metW =
    let E : Ended = f.ended I A X W gI dI gA dA gC dC dropI dropA dropX gW dW in
    let stayed : Stays E.signature.params E.kept = (only_said 5 (Row I A X gI gA) (at (0 ∷ [])), tt)
    in
    let c = f.clauses I A X W gI dI gA dA gC dC dropI dropA dropX gW dW 𝓛 𝓜.mem 𝓡.returns in
    let args : Args = bounded (a_type ∷ a_type ∷ a_type ∷ a_type ∷ []) (I, (A, (X, (W, tt))))
    (dcons dI (dcons dA (dcons dC (dcons dropI (dcons dropA (dcons dropX (dcons dW dnil)))))))
    in
    proved_at 𝓛 E stayed c 𝓜 𝓡 (goes 5 (Row I A X gI gA) (at (0 ∷ [])) 𝓛, tt) (f.Key.name args)
    (inst_fn args code.function)
    (code.unfolded 𝓤 𝓛.H 𝓜 𝓡 wired (I, (A, (X, (W, tt)))) dI dA dC dropI dropA dropX dW)
    (λ y are.
    let κs = y.0.0 in let qs = y.0.1 in let a = y.0.3 in let us : List Val = y.0.4.0 in
    let d = a.0 in let Dl = Decl I A X gI gA κs in let R = Row I A X gI gA κs in
    let 𝓣 = tables 𝓤 𝓛.H 𝓜 𝓡 𝓡.env in
    let S = g.signature I A X W gI dI gA dA gC dC dropI dropA dropX gW dW in
    let G = triple_of 𝓛 S
    (g.spec I A X W gI dI gA dA gC dC dropI dropA dropX gW dW 𝓛 𝓜.mem 𝓡.returns) in
    let gap : Gap = record { front = d.front; back = d.back; end = d.end; total = d.total } in
    let C = g.clauses I A X W gI dI gA dA gC dC dropI dropA dropX gW dW 𝓛 𝓜.mem 𝓡.returns κs
    (d.vec, (gap, (d.iter, tt))) in
    let Call = C.requires tt in
    let Can : SProp 𝓤 = sep 𝓤 (fact 𝓤 (gI.can_next d.iter))
    (fact 𝓤 (IsFinite (gI.remaining d.iter))) in
    qed 𝓛 ((raw (alive 𝓛 E.signature κs qs) ⊛ ‵ (R.own_val d us) ⊛ ‵ ftrue)
    ∷ raw ((c κs a).requires tt) ∷ []) ∵
    split ! $ move ! (1 ∷ []) $ split ! $
    use1 𝓛 (some (λ (v : Val).
    raw (fact 𝓤 ((us ≡ word I A X gI gA κs d v ∷ []) × Fits I A X gI gA κs d v))
    ⊛ ‵ (owns (fields Dl) (Dl.to d) (words I A X gI gA κs d v))))
    (opened I A X gI gA 𝓛 LI κs d us) $
    pick ! (λ i. split ! $ heard ! _ (λ fit.
    -- [what the fields own; nothing; the tokens; the `requires`]
    let gaps : List Val = vals GapDecl GapLws gap in
    let ws = words I A X gI gA κs d i in
    let z : G.Ghost =
    ((κs, qs, y.0.2, (d.vec, (gap, (d.iter, tt))), (ws.0, (gaps, (ws.1.1.1.1.1.0, tt)))), tt) in
    let t = fit.1.1 in
    fsplit ! $ move ! (1 ∷ []) $ fsplit ! $ move ! (1 ∷ []) $ fsplit ! $ move ! (1 ∷ []) $
    fsplit ! $ move ! (1 ∷ []) $ fsplit ! $ move ! (1 ∷ []) $
    -- [the iterator; four numbers; the reference; nothing; the tokens; the `requires`]
    owned ! (row GapDecl) (Is (row GapDecl)) (gap_makes 𝓛) gap gaps (
      (
        vint w64 d.front
            ∷ [],
        (vint w64 d.back ∷ [], (vint w64 d.end ∷ [], (vint w64 d.total ∷ [], tt))),
      ),
      (
        refl,
        (
          (refl, t.1.1.0.fits),
          ((refl, t.1.1.1.0.fits), ((refl, t.1.1.1.1.0.fits), ((refl, t.1.1.1.1.1.0.fits), tt))),
        ),
      ),
    ) $
    fjoin ! $ move ! (5 ∷ 0 ∷ []) $ fjoin ! $ move ! (0 ∷ 5 ∷ 6 ∷ 7 ∷ []) $
    move ! (3 ∷ []) $ use1 𝓛 (raw Call) (asks 𝓤 I A X W κs Can d.ordered d.held) $
    keep ! (3 ∷ 1 ∷ 0 ∷ []) $ join ! $ join ! $ use1 𝓛 (raw (G.pre z)) (id⊢ 𝓤 _) $
    regoal ! (λ (ws : List Val).
    prop (WpFn 𝓤 𝓛.H 𝓣.C 𝓣.Λ (inst_fn args code.function) (ws ++ [])
    ((walk_of 𝓛 E stayed c).post y))) fit.0 refl $
    enter ! _ _ _ _ _ $ alloc_all ! (λ l. pass_all ! refl (t, tt) $
    sets ! (of_opd ! (get_in ! (fld ! refl (stop !)) (sub ! 0 refl (whole !)))) refl (tt, tt) $
    sets ! (of_opd ! (get_in ! (fld ! refl (stop !)) (sub ! 1 refl (whole !)))) refl
    (tt, t.1.1.0) $
    sets ! (of_opd ! (get_in ! (fld ! refl (stop !)) (sub ! 2 refl (whole !)))) refl
    (tt, t.1.1.1.0) $
    sets ! (of_opd ! (get_in ! (fld ! refl (stop !)) (sub ! 3 refl (whole !)))) refl
    (tt, t.1.1.1.1.0) $
    sets ! (of_opd ! (get_in ! (fld ! refl (stop !)) (sub ! 4 refl (whole !)))) refl
    (tt, t.1.1.1.1.1.0) $
    sets ! (of_opd ! (get_in ! (fld ! refl (stop !)) (sub ! 5 refl (whole !)))) refl fit.1.0 $
    sets ! (addr ! (through ! refl (stop !))) refl (tt, tt) $
    sets ! (agg ! (and_then ! (get ! refl)
    (and_then ! (get ! refl) (and_then ! (get ! refl) (and_then ! (get ! refl) (no_more !))))))
    refl (tt, (t.1.1.0, (t.1.1.1.0, (t.1.1.1.1.0, (t.1.1.1.1.1.0, tt))))) $
    sets ! (of_opd ! (get ! refl)) refl fit.1.0 $
    calls_at ! (framed 𝓤 𝓛.H 𝓜 𝓣) G
    (met 𝓤 𝓛 𝓜 𝓡 (code.calls-aa_vec::vec::splice::Splice::finish_parts 𝓡.env wired) I A X W LI
    LA LX LW gI dI gA dA gC dC dropI dropA dropX gW dW metI metA metC metDropI metDropA metDropX
    metW) z
    (and_then ! (get ! refl) (and_then ! (get ! refl) (and_then ! (get ! refl) (no_more !)))) (λ v.
    let T : Ended = g.ended I A X W gI dI gA dA gC dC dropI dropA dropX gW dW in
    use1 𝓛 (later (some
    (λ (r : Answer.Denot). (raw (alive 𝓛 S κs qs) ⊛ ‵ (Answer.own_val r (v ∷ []))) ⊛
    some (λ (ws : Vector X.Denot A.Denot × (Unit {0} × (Unit {0} × Unit {0}))).
    ‵ (lasts T κs z.0.3 ws) ⊛ raw (C.ensures tt r (at_exit T κs z.0.3 ws)))))) (id⊢ 𝓤 _) $
    await ! tt $
    pick ! (λ r. split ! $ split ! $ move ! (1 ∷ []) $ peeks ! Answer (Is Answer) (shows 𝓛 Answer) r
    (v ∷ []) (λ is.
    lands_as ! refl refl ((answer_laws.lawful 𝓛).typed r (v ∷ []) is).0 $
    returns ! (look_at ! 0 refl) $ free_all ! refl $
    -- [the result; the tokens; what `finish_parts` ensures]
    move ! (2 ∷ []) $ pick ! (λ ws. split ! $ move ! (1 ∷ []) $
    use1 𝓛 (raw ((c κs a).ensures tt r
    (at_exit E κs a ((ws.0, (tt, (tt, (tt, (tt, (tt, tt)))))), tt)))) (id⊢ 𝓤 _) $
    move ! (1 ∷ []) $ fsplit ! $ move ! (1 ∷ []) $ nothing ! $ fjoin ! $ nothing ! $ fjoin ! $
    nothing ! $ fjoin ! $ move ! (1 ∷ 0 ∷ []) $ fjoin ! $
    nothing ! $ move ! (1 ∷ 0 ∷ []) $ fjoin ! $ move ! (3 ∷ 0 ∷ 2 ∷ []) $ group ! 3 $
    suffices ! _ (ends_at 𝓛 E stayed c y v r ((ws.0, (tt, (tt, (tt, (tt, (tt, tt)))))), tt)
    (tt, tt)) $ done !))))))))
