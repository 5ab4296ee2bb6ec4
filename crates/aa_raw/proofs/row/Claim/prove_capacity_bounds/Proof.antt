-- A claim's `&` bounds the number of places. Assumes `Logic`.
use Rattle.aa_raw.proofs.{ !, Al, Cl, El, Goes-dropped, RefOf, Stays, Vals, [], alloc_all, block_args as args, done, ends_at, enter, feq_i, fjoin, flft, flt_l, free_all, fsplit, ftrue, inst_fn, keep, look_at, lose as drop, move, named, nothing, of_opd, owns, pass_all, plain, proved, qed, raw, refl, returns, says, sets, shr_Tells, shr_vals, split, stay_dropped, suffices, sz, tells_of, types_at, unhide, unit_lit, vunit, walk_of, yes, ‵, ◌$◌, ◌∵◌, ◌∷◌, ◌⊛◌}
use Rattle.aa_raw.specs.contracts.row.Claim.prove_capacity_bounds as f
use Rattle.aa_raw.proofs.row.Claim.prove_capacity_bounds.Code as code

pub prove_capacity_bounds_spec : {M : Type 1}
    → Rattle.aa_raw.proofs.row.Claim.prove_capacity_bounds.Statement.statement M
prove_capacity_bounds_spec 𝓤 𝓛 𝓜 𝓡 wired X W LX LW g dict dd met md =
    let E : El = record { row = X; laws = LX } in
    let Z : Al = record { row = W; laws = LW; g = g; d = dict; drops = dd } in
    let key = args (record { row = X; laws = LX }) Z in
    let stayed : Stays (f.ended E.row Z.row Z.g Z.d Z.drops).signature.params
    (f.ended E.row Z.row Z.g Z.d Z.drops).kept =
    (stay_dropped (RefOf (0 ∷ []) tt (plain (λ _. Cl E Z)) (λ _. tt)) yes, tt) in
    let T = f.ended X W g dict dd in let c = f.clauses X W g dict dd 𝓛 𝓜.mem 𝓡.returns in
    let e = inst_fn key code.function in let Wk = walk_of 𝓛 T stayed c in
    proved 𝓛 T stayed c 𝓜 𝓡 (
      Goes-dropped 𝓛 3 (RefOf (0 ∷ []) tt (plain (λ _. Cl E Z)) (λ _. tt)) yes (λ κs x w. refl),
      tt,
    )
    (f.Key.name key) e (code.unfolded 𝓤 𝓛.H 𝓜 𝓡 wired (X, (W, tt)) dict dd) (λ κs. (shr_vals, tt))
    (λ κs. (shr_Tells (named 0) κs.0 (Cl E Z), tt)) (λ κs qs bounds a none are.
    let vss : Vals T.signature κs = (shr_vals a.0, tt) in
    let y : Wk.Ghost = ((κs, qs, bounds, a, vss), tt) in let n = a.0.now.len in
    qed 𝓛 (((‵ (flft κs.0 qs.0) ⊛ ‵ (flft κs.1.0 qs.1.0) ⊛ ‵ (flft κs.1.1.0 qs.1.1.0) ⊛ ‵ ftrue)
    ⊛ ‵ (owns (types_at T.signature.params κs) a vss)) ∷ raw ((c κs a).requires tt) ∷ []) ∵
    split ! $ move ! (1 ∷ []) $ fsplit ! $ fsplit ! $ drop ! $ keep ! (0 ∷ 2 ∷ []) $
    enter ! _ _ _ _ _ $ alloc_all ! (λ l. pass_all ! refl ((tt, tt), tt) $
    unhide ! $ fsplit ! $ drop ! $ fsplit ! $ flt_l ! (λ few. flt_l ! (λ bound.
    sets ! (of_opd ! (unit_lit !)) refl (tt, tt) $ returns ! (look_at ! 0 refl) $ free_all ! refl $
    suffices ! _ (ends_at 𝓛 T stayed c y vunit tt (tt, tt) (tt, tt)) $
    says ! (few, tells_of n (sz E) bound) $
    feq_i ! _ (vunit ∷ []) _ refl $ nothing ! $ nothing ! $ fjoin ! $ move ! (2 ∷ 0 ∷ 1 ∷ []) $
    done !))))
