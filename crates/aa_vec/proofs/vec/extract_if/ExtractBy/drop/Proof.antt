-- `drop` passes the reference on to `close_kept`, for good: so it owes no range at the return.
use Rattle.aa_vec.proofs.Walks.{Is, agg, owed, owned, ◌-◌, [], ◌∷◌, List, Args, dcons, dnil, a_type, inst_fn, Val, vunit, id⊢, ftrue, ‵, raw, ◌⊛◌, some, later, ◌$◌, ◌∵◌, !, qed, move, keep, use0, use1, group, split, join, fsplit, fjoin, feq_l, feq_i, pick, await, suffices, done, whole, sub, enter, stop, fld, of_opd, addr, unit_lit, and_then, no_more, returns, alloc_all, pass_all, free_all, look_at, get, get_in, through, sets, lands_as, fact, tables, unit, yes, bounded, owns, nothing, heard, only, fields, vals, tells, lawful, calls_at, Ended, lasts, alive, triple_of, framed, Stays, walk_of, ends_at, proved, refl, ap, fact_i, emp, row, Vector, ClosesTwoGaps, ClosesExtract}
use Rattle.aa_vec.proofs.DrainFields.{DeclBy, LwsBy, Gap, GapDecl, GapLws, gap_makes, asks, words, only_said, goes, opened}
use Rattle.aa_vec.proofs.ExtractLemmas.{closes_extract}
use Rattle.aa_vec.specs.contracts.vec.extract_if.ExtractBy.drop as f
use Rattle.aa_vec.proofs.vec.extract_if.ExtractBy.drop.Statement.{statement}
use Rattle.aa_vec.proofs.vec.extract_if.ExtractBy.drop.Code as code
use Rattle.aa_vec.specs.contracts.vec.Vec.close_kept as g
use Rattle.aa_vec.proofs.vec.Vec.close_kept.Met.{met}

pub drop_spec : {M : Type 1} → statement M
drop_spec 𝓤 𝓛 𝓜 𝓡 wired T A LT LA G-A dA dT dD metA metT metD =
    let E : Ended = f.ended T A G-A dA dT dD in
    let stayed : Stays E.signature.params E.kept =
    (only_said 3 (λ κs. row (DeclBy T A G-A κs)) yes, tt) in
    let c = f.clauses T A G-A dA dT dD 𝓛 𝓜.mem 𝓡.returns in
    let args : Args = bounded (a_type ∷ a_type ∷ []) (T, (A, tt))
    (dcons dA (dcons dT (dcons dD dnil))) in
    proved 𝓛 E stayed c 𝓜 𝓡 (goes 3 (λ κs. row (DeclBy T A G-A κs)) yes 𝓛, tt) (f.Key.name args)
    (inst_fn args code.function) (code.unfolded 𝓤 𝓛.H 𝓜 𝓡 wired (T, (A, tt)) dA dT dD)
    (λ κs. (vals (DeclBy T A G-A κs) (LwsBy T A G-A κs), tt))
    (λ κs. (tells (DeclBy T A G-A κs) (LwsBy T A G-A κs), tt)) (λ κs qs bounds a _ are.
    let d = a.0 in let Dl = DeclBy T A G-A κs in let us : List Val = vals Dl (LwsBy T A G-A κs) d in
    let t = ((lawful Dl (LwsBy T A G-A κs) 𝓛).typed d us are.0).0 in
    let y : (walk_of 𝓛 E stayed c).Ghost = ((κs, qs, bounds, a, (us, tt)), tt) in
    let gap : Gap = record { front = d.kept; back = d.front; end = d.end; total = d.total } in
    let gaps : List Val = vals GapDecl GapLws gap in
    let S = g.signature T A G-A dA dD in
    let G = triple_of 𝓛 S (g.spec T A G-A dA dD 𝓛 𝓜.mem 𝓡.returns) in
    let z : G.Ghost =
    ((κs, qs, bounds, (d.vec, (gap, tt)), ((words Dl (LwsBy T A G-A κs) d).0, (gaps, tt))), tt)
    in
    qed 𝓛 ((raw (alive 𝓛 E.signature κs qs) ⊛ ‵ ((row Dl).own_val d us) ⊛ ‵ ftrue)
    ∷ raw ((c κs a).requires tt) ∷ []) ∵
    split ! $ move ! (1 ∷ []) $ split ! $
    use1 𝓛 (‵ (owns (fields Dl) (Dl.to d) (words Dl (LwsBy T A G-A κs) d)))
    (opened Dl (LwsBy T A G-A κs) 𝓛 d us) $
    fsplit ! $ owned ! (row GapDecl) (Is (row GapDecl)) (gap_makes 𝓛) gap gaps
    ((words Dl (LwsBy T A G-A κs) d).1, (refl, (owed Dl (LwsBy T A G-A κs) d us are.0).1)) $
    -- [the gap; the reference; the numbers; nothing; the tokens; the `requires`]
    move ! (0 ∷ 3 ∷ []) $ fjoin ! $ move ! (1 ∷ 0 ∷ []) $ fjoin ! $
    move ! (3 ∷ []) $ use1 𝓛 (raw _) (asks 𝓤 T A κs d.ordered d.held) $ keep ! (3 ∷ 1 ∷ 0 ∷ []) $
    join ! $ join ! $ use1 𝓛 (raw (G.pre z)) (id⊢ 𝓤 _) $
    enter ! _ _ _ _ _ $ alloc_all ! (λ l. pass_all ! refl (t, tt) $
    sets ! (of_opd ! (get_in ! (fld ! refl (stop !)) (sub ! 0 refl (whole !)))) refl (tt, tt) $
    sets ! (of_opd ! (get_in ! (fld ! refl (stop !)) (sub ! 1 refl (whole !)))) refl (tt, t.1.1.0) $
    sets ! (of_opd ! (get_in ! (fld ! refl (stop !)) (sub ! 2 refl (whole !)))) refl
    (tt, t.1.1.1.0) $
    sets ! (of_opd ! (get_in ! (fld ! refl (stop !)) (sub ! 3 refl (whole !)))) refl
    (tt, t.1.1.1.1.0) $
    sets ! (of_opd ! (get_in ! (fld ! refl (stop !)) (sub ! 4 refl (whole !)))) refl
    (tt, t.1.1.1.1.1.0) $
    sets ! (addr ! (through ! refl (stop !))) refl (tt, tt) $
    sets ! (agg ! (and_then ! (get ! refl)
    (and_then ! (get ! refl) (and_then ! (get ! refl) (and_then ! (get ! refl) (no_more !))))))
    refl (tt, (t.1.1.0, (t.1.1.1.0, (t.1.1.1.1.0, (t.1.1.1.1.1.0, tt))))) $
    calls_at ! (framed 𝓤 𝓛.H 𝓜 (tables 𝓤 𝓛.H 𝓜 𝓡 𝓡.env)) G
    (met 𝓤 𝓛 𝓜 𝓡 (code.calls-aa_vec::vec::Vec::close_kept 𝓡.env wired) T A LT LA G-A dA dD metA
    metD) z
    (and_then ! (get ! refl) (and_then ! (get ! refl) (no_more !))) (λ v.
    use1 𝓛 (later (some (λ (r : Unit {0}). (raw (alive 𝓛 S κs qs) ⊛ ‵ (unit.own_val r (v ∷ []))) ⊛
    some (λ (ws : Vector T.Denot A.Denot × (Unit {0} × Unit {0})). ‵
    (lasts (g.ended T A G-A dA dD) κs z.0.3 ws) ⊛
    raw (fact 𝓤 (ClosesTwoGaps d.vec.now 0 d.kept d.front (d.total - d.front) ws.0)))))) (id⊢ 𝓤 _) $
    await ! tt $ pick ! (λ r. split ! $ split ! $ move ! (1 ∷ []) $ feq_l ! (λ is_unit.
    lands_as ! (ap only is_unit) refl (tt, tt) $ sets ! (of_opd ! (unit_lit !)) refl (tt, tt) $
    returns ! (look_at ! 0 refl) $ free_all ! refl $
    -- [the tokens; what `close_kept` ensures]
    move ! (1 ∷ []) $ pick ! (λ ws. split ! $ move ! (1 ∷ []) $ heard ! _ (λ said.
    -- [the last values of `close_kept`; the tokens]
    fsplit ! $ keep ! (0 ∷ 2 ∷ []) $ nothing ! $ move ! (1 ∷ 0 ∷ []) $ fjoin ! $ nothing ! $
    move ! (1 ∷ 0 ∷ []) $ fjoin ! $
    feq_i ! _ (vunit ∷ []) _ refl $ move ! (2 ∷ 1 ∷ 0 ∷ []) $ group ! 3 $
    use0 𝓛 (raw (fact 𝓤 (ClosesExtract d ws.0))) (fact_i 𝓤 _ (emp 𝓤) (closes_extract d ws.0 said)) $
    move ! (1 ∷ 0 ∷ []) $ suffices ! _ (ends_at 𝓛 E stayed c y vunit tt ((ws.0, tt), tt) (tt, tt)) $
    done !)))))))
