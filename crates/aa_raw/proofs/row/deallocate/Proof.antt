-- The memory of a row is deallocated by its allocator. Assumes `Logic`.
use Rattle.aa_raw.proofs.{ !, Al, Cl, El, Gives, Gives-Gives, Gives-goes, Goes-blank, Goes-dropped, Incl-trans, Ptr, R, RefOf, Right, Rw, Stays, T as So, Val, Vals, WT, WpFn, [], after, align, align_word, alloc_all, and_then, ap, arith, as_raw, at_gives, at_ret, await, bin, block_align, block_args as args, block_ptr, block_size, block_ty, blocks, by, calls_at_last, capped, capped_fits, claim_had, done, elτ, ends_at, ent, enter, env, exec, fact, feq_i, first, fjoin, fld, flft, framed, free_all, froom, fsplit, fsplit3, ftrue, get, get_in, given, group, has_ty, heard, hidden_shr, inst_fn, is, join, keep, lands_last, later, learn, length, look_at, lose as drop, mark, move, no, no_more, nothing, of_opd, owns, param, pass_all, plain, proved_at, qed, raw, refl, returns, rewrite, right_had, room_of_row, row_had, sets, shr_vals, size_word, split, stay_dropped, stop, sub, subst, suffices, sym, sz, tables, tables_of, token, ty_array, ty_unit, types_at, uint_vals, uncapped, unit_lit, use1, usize, vint, vunit, w64, walk_of, way_fits, whole, word, yes, ‵, ℕ, ⋆, ◌$◌, ◌*◌, ◌<◌, ◌^◌, ◌∙◌, ◌∵◌, ◌∷◌, ◌≡◌, ◌⊑◌, ◌⊛◌}
use Rattle.aa_raw.specs.contracts.row.deallocate as f
use Rattle.aa_raw.proofs.row.deallocate.Code as code

pub deallocate_spec : {M : Type 1} → Rattle.aa_raw.proofs.row.deallocate.Statement.statement M
unfolding tables_of
deallocate_spec 𝓤 𝓛 𝓜 𝓡 wired X W LX LW g dict dd met md =
    let E : El = record { row = X; laws = LX } in
    let Z : Al = record { row = W; laws = LW; g = g; d = dict; drops = dd } in
    let key = args (record { row = X; laws = LX }) Z in
    let stayed : Stays (f.ended E.row Z.row Z.g Z.d Z.drops).signature.params
    (f.ended E.row Z.row Z.g Z.d Z.drops).kept = (
      stay_dropped (RefOf (0 ∷ []) tt (plain (λ _. param 1 Z.row)) (λ _. tt)) yes,
      (
        stay_dropped (plain (λ _. usize)) yes,
        (stay_dropped (plain (λ _. Rw E)) no, (stay_dropped (plain (λ _. Cl E Z)) no, tt)),
      ),
    ) in
    let T = f.ended X W g dict dd in let c = f.clauses X W g dict dd 𝓛 𝓜.mem 𝓡.returns in
    let e = inst_fn key code.function in let Wk = walk_of 𝓛 T stayed c in
    let 𝓣 = tables 𝓤 𝓛.H 𝓜 𝓡 𝓡.env in
    let B = block_ty (record { row = X; laws = LX }) in
    proved_at 𝓛 T stayed c 𝓜 𝓡 (
      Goes-dropped 𝓛 3 (RefOf (0 ∷ []) tt (plain (λ _. param 1 W)) (λ _. tt)) yes (λ κs x w. refl),
      (
        Goes-dropped 𝓛 3 (plain (λ _. usize)) yes (λ κs x w. refl),
        (
          Goes-blank 𝓛 3 (plain (λ _. Rw E)) no (λ κs x w. tt),
          (Goes-blank 𝓛 3 (plain (λ _. Cl E Z)) no (λ κs x w. tt), tt),
        ),
      ),
    )
    (f.Key.name key) e (code.unfolded 𝓤 𝓛.H 𝓜 𝓡 wired (X, (W, tt)) dict dd) (λ x are.
    let κs = x.0.0 in let qs = x.0.1 in let a = x.0.3 in let us = x.0.4 in let κ = κs.0 in
    let q = qs.0 in let rp : ℕ × ℕ = a.0.ref_ptr in let h = a.0.now in let n = a.1.0 in
    let row = a.1.1.0 in let claim = a.1.1.1.0 in
    let s = sz E in let al : ℕ = capped (align (elτ E)) in
    let Ok : Type 0 = (length row.places ≡ n) × (claim.ptr ≡ row.ptr) × (claim.len ≡ n)
    × (claim.alloc ≡ h) × (0 < n * s) in
    let spelled : Vals T.signature κs → Wk.Ghost = λ vss. ((κs, qs, x.0.2, a, vss), tt) in
    qed 𝓛 (((‵ (flft κ q) ⊛ ‵ (flft κs.1.0 qs.1.0) ⊛ ‵ (flft κs.1.1.0 qs.1.1.0) ⊛ ‵ ftrue)
    ⊛ ‵ (owns (types_at T.signature.params κs) a us))
    ∷ (raw (fact 𝓤 (κs.1.0 ⊑ X.lives)) ⊛ raw (fact 𝓤 (κs.1.1.0 ⊑ W.lives)) ⊛ raw (fact 𝓤 Ok))
    ∷ []) ∵
    move ! (1 ∷ []) $ split ! $ drop ! $ split ! $
    heard ! (κs.1.1.0 ⊑ W.lives) (λ lives. heard ! Ok (λ ok.
    split ! $ split ! $ move ! (2 ∷ []) $ fsplit3 ! $ fsplit ! $ drop ! $ move ! (2 ∷ []) $
    fsplit ! $ row_had (R E) ! row us.1.1.0
    (λ b o lies spelt small. move ! (1 ∷ []) $ fsplit ! $ claim_had E Z ! claim us.1.1.1.0
    (λ marked.
    rewrite ! 0 (λ (z : W.Denot × Ptr × ℕ). ‵ (Right E Z z.0 z.1 z.2))
    (λ k. (ok.3 k, (ok.1 ∙ lies) k, ok.2 k)) refl $
    use1 𝓛 (‵ (token Z h (B n) (block_ptr b o)))
    (right_had E 𝓛 (token Z h) (block_ptr b o) n (n * s) ok.4) $
    move ! (2 ∷ 0 ∷ 3 ∷ 5 ∷ 6 ∷ []) $
    use1 𝓛 (‵ (froom (ty_array (elτ E) (length row.places)) b o)) (room_of_row E 𝓛 b o row.places) $
    rewrite ! 0 (λ (k : ℕ). ‵ (froom (ty_array (elτ E) k) b o)) ok.0 refl $
    as_raw ! (ty_array (elτ E) n) b o $
    let few : n * s < 2 ^ 63 = subst (λ k. k * s < 2 ^ 63) ok.0 small in
    let far : n * s < 2 ^ 64 = omega (arith, few) in
    let vss : Vals T.signature κs =
    (shr_vals a.0, (uint_vals w64 n, (word b o ∷ [], (mark ∷ [], tt)))) in
    let y = spelled vss in
    let others = ‵ (flft κs.1.0 qs.1.0) ⊛ ‵ (flft κs.1.1.0 qs.1.1.0) ⊛ ‵ ftrue in
    let Had = ‵ (froom (B n) b o) ∷ ‵ (token Z h (B n) (block_ptr b o))
    ∷ ‵ (hidden_shr W κ h rp.0 rp.1) ∷ ‵ (flft κ q) ∷ others ∷ [] in
    keep ! (0 ∷ 1 ∷ 2 ∷ 3 ∷ 4 ∷ []) $
    by ! (subst (λ (vs : Vals T.signature κs).
    ent 𝓤 (⋆ 𝓛 Had) (WpFn 𝓤 𝓛.H 𝓣.C 𝓣.Λ e (Wk.args (spelled vs)) (Wk.post (spelled vs))))
    (sym (λ k. (are.0.0 k, (are.1.0.0 k, (spelt k, (marked k, tt)))))) (
    qed 𝓛 Had ∵ enter ! _ _ _ _ _ $
    alloc_all ! (λ l.
    pass_all ! refl (
      (tt, tt),
      ((tt, record { fits = are.1.0.1 }), ((tt, (tt, tt)), ((tt, (tt, tt)), tt))),
    ) $
    let Give = Gives Z 𝓛 𝓜.mem 𝓡.returns in
    let z : Give.Ghost = at_gives Z 𝓛 𝓜.mem 𝓡.returns κ q rp h b o (n * s) al (B n) in
    sets ! (of_opd ! (get_in ! (fld ! refl (stop !)) (sub ! 0 refl (whole !)))) refl (tt, tt) $
    first ! $ blocks ! $ sets ! (of_opd ! (get ! refl)) refl (tt, tt) $
    sets ! (is ! (bin ! (get ! refl) (size_word !) (record { fits = way_fits E n far }))
    (ap (vint w64) (uncapped n (sz E) far))) refl (tt, record { fits = far }) $
    group ! 4 $ use1 𝓛 (raw (Give.pre z))
    (Gives-goes Z 𝓛 𝓜.mem 𝓡.returns κ q rp h (Incl-trans x.0.2.0 lives) b o (n * s) al (B n)
    (block_size (record { row = X; laws = LX }) n far)
    (block_align (record { row = X; laws = LX }) n) far (capped_fits (align (elτ E)))) $
    calls_at_last ! (framed 𝓤 𝓛.H 𝓜 𝓣) Give (met.deallocate dd) z
    (and_then ! (get ! refl)
    (and_then ! (get ! refl) (and_then ! (get ! refl) (and_then ! (align_word !) (no_more !)))))
    (λ v.
    use1 𝓛 (later (given (v ≡ vunit) (‵ (flft κ q))))
    (Gives-Gives Z 𝓛 𝓜.mem 𝓡.returns κ q rp h b o (n * s) al (B n) v) $ await ! tt $
    learn ! (λ over.
    lands_last ! refl (subst (λ (u : Val). So (has_ty ty_unit u) × WT u) (sym over) (tt, tt)) $
    exec ! 𝓣.C 𝓣.Λ (env e.locals l) (after 2 e.body) (at_ret _ (Wk.post y)) $
    sets ! (of_opd ! (unit_lit !)) refl (tt, tt) $ returns ! (look_at ! 0 refl) $ free_all ! refl $
    suffices ! _ (ends_at 𝓛 T stayed c y vunit tt (tt, (tt, (tt, (tt, tt))))
    (tt, (tt, (tt, (tt, tt))))) $
    join ! $ feq_i ! _ (vunit ∷ []) _ refl $ nothing ! $ nothing ! $ fjoin ! $ nothing ! $ fjoin ! $
    nothing ! $ fjoin ! $ nothing ! $ fjoin ! $ join ! $
    move ! (1 ∷ 0 ∷ []) $ join ! $ nothing ! $ move ! (1 ∷ 0 ∷ []) $ done !))))))))))
