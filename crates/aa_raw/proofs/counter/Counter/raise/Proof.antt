-- `raise` does nothing, and sets the ghost field, as `add` does.
use Rattle.aa_raw.proofs.{ !, Goes-dropped, Goes-ref, MutRef, Stays, [], alloc_all, closes, done, ends_at, enter, feq_i, fjoin, flft, frame, free_all, fsplit3, ftrue, group, join, keep, look_at, max, move, mut_Tells, mut_vals, named, nothing, of_opd, opens, pass_all, plain, proved, qed, refl, returns, says, sets, split, stay_dropped, stay_ref, suffices, tables, tally_row as R, uint_Tells, uint_vals, unit_lit, usize, vunit, w64, walk_of, yes, ‵, ◌$◌, ◌∵◌, ◌∷◌, ◌⊛◌}
use Rattle.aa_raw.specs.contracts.counter.Counter.raise as f
use Rattle.aa_raw.proofs.counter.Counter.raise.Code as code

pub raise_spec : {M : Type 1} → Rattle.aa_raw.proofs.counter.Counter.raise.Statement.statement M
raise_spec 𝓤 𝓛 𝓜 𝓡 wired =
    let stayed : Stays f.ended.signature.params f.ended.kept =
    (stay_ref (0 ∷ []) tt (plain (λ _. R)), (stay_dropped (plain (λ _. usize)) yes, tt)) in
    let c = f.clauses 𝓛 𝓜.mem 𝓡.returns in let W = walk_of 𝓛 f.ended stayed c in
    let 𝓣 = tables 𝓤 𝓛.H 𝓜 𝓡 𝓡.env in
    proved 𝓛 f.ended stayed c 𝓜 𝓡 (
      Goes-ref 𝓛 1 0 tt (plain (λ _. R)),
      (Goes-dropped 𝓛 1 (plain (λ _. usize)) yes (λ κs x w. refl), tt),
    )
    f.Key.name code.function (code.unfolded 𝓤 𝓛.H 𝓜 𝓡 wired)
    (λ κs. (mut_vals, (uint_vals w64, tt)))
    (λ κs. (mut_Tells (named 0) κs.0 R, (uint_Tells w64, tt))) (λ κs qs bounds a _ are.
    let b = a.0.ref_ptr.0 in let o = a.0.ref_ptr.1 in let t = a.0.now in let n = a.1.0 in
    let vs = mut_vals a.0 in
    let y : W.Ghost = ((κs, qs, bounds, a, (vs, (uint_vals w64 n, tt))), tt) in
    let new : R.Denot = record { mark = record {}; count = max t.count n } in
    qed 𝓛 (((‵ (flft κs.0 qs.0) ⊛ ‵ ftrue) ⊛ ‵ ((MutRef (named 0) κs.0 R).own_val a.0 vs)
    ⊛ ‵ ((usize).own_val n (uint_vals w64 n)) ⊛ ‵ ftrue) ∷ ‵ ftrue ∷ []) ∵
    split ! $ split ! $ move ! (2 ∷ []) $ split ! $ keep ! (0 ∷ 2 ∷ []) $
    enter ! _ _ _ _ _ $
    alloc_all ! (λ l. pass_all ! refl ((tt, tt), ((tt, record { fits = are.1.0.1 }), tt)) $
    fsplit3 ! $ move ! (1 ∷ 2 ∷ 3 ∷ []) $ opens ! tt R b o (λ us.
    move ! (1 ∷ 0 ∷ []) $ move ! (1 ∷ 0 ∷ []) $ closes ! tt R new us b o $
    sets ! (of_opd ! (unit_lit !)) refl (tt, tt) $
    returns ! (look_at ! 0 refl) $ free_all ! refl $ move ! (3 ∷ []) $
    suffices ! _ (ends_at 𝓛 f.ended stayed c y vunit tt (new, (tt, tt)) (tt, (tt, tt))) $
    says ! refl $
    group ! 3 $ nothing ! $ nothing ! $ fjoin ! $ move ! (1 ∷ 0 ∷ []) $ join ! $ nothing ! $
    move ! (2 ∷ 0 ∷ []) $ join ! $ frame ! $ frame ! $
    feq_i ! _ (vunit ∷ []) _ refl $ done !)))
