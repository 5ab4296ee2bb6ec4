-- Empty places from the allocator, with the right to deallocate them. Assumes `Logic`.
use Rattle.aa_raw.proofs.{ !, After, Al, Answer-typed, Answered, Body, Both, El, Err, Goes-dropped, IfOk, Incl-trans, Is, IsCapacity, IsGood as Good, None, Ok, R, RattleType, RefOf, Right, Spot, Sq, Stays, Struct, Struct-Makes, Takes, Takes-gives, Takes-goes, Val, Vals, Wp, [], after, after_seq, agg, align, align_word, alloc_all, and_then, answers, any_q, ap, arith, arm_body, as_written, at_ret, at_return, at_takes, await, bin, block_align, block_args as args, block_ptr, block_size, block_ty, calls_at, capped, capped_fits, done, each, elτ, ends_at, enter, env, err_of, exec, fact, false, first, first_Good, fjoin, fld, flft, framed, free_all, fsplit, ftrue, get, get_in, get_tag, head, heard, in_variant, inst_fn, is, join, keep, lands_as, later, layout, lit, lit<, live, look_at, lose as drop, mark, move, named, new_pair, no_more, nothing, of_opd, ok_of, owned, owns, pair_made, pair_val, param, pass_all, plain, prop, proved, qed, raw, refl, replicate, returns, right_made, row_of_room, says, sets, sets_last, shr_Tells, shr_vals, size_word, split, stay_dropped, stop, suffices, switches_on, sz, tables, tables_of, token, true, ty_array, types_at, uint_Tells, uint_vals, uncapped, use1, use2, usize, vcons, vint, vnil, vrt, vstruct, w64, walk_of, way_fits, whole, word, yes, ‵, ℕ, ◌$◌, ◌*◌, ◌<◌, ◌^◌, ◌∵◌, ◌∷◌, ◌≡◌, ◌⊑◌, ◌⊛◌}
use denote.Struct.Declared as Declared
use Rattle.core.specs.contracts.alloc.AllocError as AE
use Rattle.core.specs.contracts.result.Result as RS
use Rattle.aa_raw.specs.contracts.row.allocate as f
use Rattle.aa_raw.proofs.row.allocate.Code as code

pub allocate_spec : {M : Type 1} → Rattle.aa_raw.proofs.row.allocate.Statement.statement M
unfolding tables_of
allocate_spec 𝓤 𝓛 𝓜 𝓡 wired X W LX LW g dict dd met md =
    let E : El = record { row = X; laws = LX } in
    let Z : Al = record { row = W; laws = LW; g = g; d = dict; drops = dd } in
    let key = args (record { row = X; laws = LX }) Z in
    let stayed : Stays (f.ended E.row Z.row Z.g Z.d Z.drops).signature.params
    (f.ended E.row Z.row Z.g Z.d Z.drops).kept = (
      stay_dropped (RefOf (0 ∷ []) tt (plain (λ _. param 1 Z.row)) (λ _. tt)) yes,
      (stay_dropped (plain (λ _. usize)) yes, tt),
    ) in
    let T = f.ended X W g dict dd in let c = f.clauses X W g dict dd 𝓛 𝓜.mem 𝓡.returns in
    let e = inst_fn key code.function in let Wk = walk_of 𝓛 T stayed c in
    let 𝓣 = tables 𝓤 𝓛.H 𝓜 𝓡 𝓡.env in
    let B = block_ty (record { row = X; laws = LX }) in
    let Out = RS.the_row (Both E Z) AE.the_row in
    let Refusal : RattleType = Struct (Declared.shape AE.the_type) in
    proved 𝓛 T stayed c 𝓜 𝓡 (
      Goes-dropped 𝓛 3 (RefOf (0 ∷ []) tt (plain (λ _. param 1 W)) (λ _. tt)) yes
          (λ κs x w. refl),
      (Goes-dropped 𝓛 3 (plain (λ _. usize)) yes (λ κs x w. refl), tt),
    )
    (f.Key.name key) e (code.unfolded 𝓤 𝓛.H 𝓜 𝓡 wired (X, (W, tt)) dict dd)
    (λ κs. (shr_vals, (uint_vals w64, tt)))
    (λ κs. (shr_Tells (named 0) κs.0 (param 1 W), (uint_Tells w64, tt)))
    (λ κs qs bounds a none are.
    let κ = κs.0 in let q = qs.0 in let rp : ℕ × ℕ = a.0.ref_ptr in let h = a.0.now in
    let n = a.1.0 in let s = sz E in
    let vss : Vals T.signature κs = (shr_vals a.0, (uint_vals w64 n, tt)) in
    let y : Wk.Ghost = ((κs, qs, bounds, a, vss), tt) in
    let ends : (r : Out.Denot) (v : Val)
    → IfOk r (λ t. (t.0.places ≡ replicate n None) × (t.1.ptr ≡ t.0.ptr) × (t.1.len ≡ n)
    × (t.1.alloc ≡ h))
    → Sq 𝓛 (‵ (Out.own_val r (v ∷ [])) ∷ ‵ (flft κ q)
    ∷ (‵ (flft κs.1.0 qs.1.0) ⊛ ‵ (flft κs.1.1.0 qs.1.1.0) ⊛ ‵ ftrue) ∷ [])
    (prop (Wk.post y v)) = λ r v good.
    suffices ! _ (ends_at 𝓛 T stayed c y v r (tt, (tt, tt)) (tt, (tt, tt))) $ says ! good $
    move ! (1 ∷ 2 ∷ []) $ join ! $ nothing ! $ nothing ! $ fjoin ! $ nothing ! $ fjoin ! $
    move ! (1 ∷ 0 ∷ 2 ∷ []) $ done ! in
    qed 𝓛 (((‵ (flft κ q) ⊛ ‵ (flft κs.1.0 qs.1.0) ⊛ ‵ (flft κs.1.1.0 qs.1.1.0) ⊛ ‵ ftrue)
    ⊛ ‵ (owns (types_at T.signature.params κs) a vss))
    ∷ (raw (fact 𝓤 (κs.1.0 ⊑ X.lives)) ⊛ raw (fact 𝓤 (κs.1.1.0 ⊑ W.lives))
    ⊛ raw (fact 𝓤 (IsCapacity (R E) n))) ∷ []) ∵
    move ! (1 ∷ []) $ split ! $ drop ! $ split ! $
    heard ! (κs.1.1.0 ⊑ W.lives) (λ lives. heard ! (IsCapacity (R E) n) (λ room.
    let few : n * s < 2 ^ 63 = room.0 in let far : n * s < 2 ^ 64 = omega (arith, few) in
    let al : ℕ = capped (align (elτ E)) in
    split ! $ split ! $ move ! (2 ∷ []) $ fsplit ! $ fsplit ! $ drop ! $ keep ! (0 ∷ 2 ∷ 3 ∷ []) $
    enter ! _ _ _ _ _ $
    alloc_all ! (λ l. pass_all ! refl ((tt, tt), ((tt, record { fits = are.1.0.1 }), tt)) $
    let both : Body = head (after 2 e.body) in
    let Then : After 𝓤 𝓛.H = any_q
    (after_seq 𝓤 𝓛.H
    (Wp 𝓤 𝓛.H 𝓣.C 𝓣.Λ (env e.locals l) (after 3 e.body)
    (at_return 𝓤 𝓛.H (env e.locals l) (Wk.post y)))
    (at_return 𝓤 𝓛.H (env e.locals l) (Wk.post y))) in
    let Ask = Takes Z 𝓛 𝓜.mem 𝓡.returns in
    let z : Ask.Ghost = at_takes Z 𝓛 𝓜.mem 𝓡.returns κ q rp h (n * s) al (B n) in
    sets ! (is ! (bin ! (get ! refl) (size_word !) (record { fits = way_fits E n far }))
    (ap (vint w64) (uncapped n (sz E) far))) refl (tt, record { fits = far }) $
    use2 𝓛 (raw (Ask.pre z))
    (Takes-goes Z 𝓛 𝓜.mem 𝓡.returns κ q rp h (Incl-trans bounds.0 lives) (n * s) al (B n)
    (block_size (record { row = X; laws = LX }) n far)
    (block_align (record { row = X; laws = LX }) n) far (capped_fits (align (elτ E)))) $
    calls_at ! (framed 𝓤 𝓛.H 𝓜 𝓣) Ask (met.allocate dd) z
    (and_then ! (get ! refl) (and_then ! (get ! refl) (and_then ! (align_word !) (no_more !))))
    (λ v.
    use1 𝓛 (later (raw (Answered Z 𝓛 𝓜.mem 𝓡.returns h (B n) v) ⊛ ‵ (flft κ q)))
    (Takes-gives Z 𝓛 𝓜.mem 𝓡.returns κ q rp h (n * s) al (B n) v) $ await ! tt $ split ! $
    answers Z ! 𝓜.mem 𝓡.returns h (B n) v
    (λ b o given.
    let made : Val = pair_val (word b o) mark in
    let typed : Good (layout (Both E Z)) made = (tt, ((tt, tt), ((tt, tt), tt))) in
    let ok = first_Good (layout (Both E Z)) made typed in
    lands_as ! given refl (Answer-typed true b o) $ first ! $
    switches_on ! (get_tag ! (vrt ! refl (fld ! refl (stop !))) (whole !)) $
    exec ! 𝓣.C 𝓣.Λ (env e.locals l) (arm_body 0 both) Then $
    sets ! (of_opd ! (get_in ! (vrt ! refl (fld ! refl (stop !)))
    (in_variant ! 0 0 refl refl (whole !)))) refl (tt, tt) $ sets ! (of_opd ! (get ! refl)) refl
    (tt, tt) $
    sets ! (agg ! (and_then ! (get ! refl) (no_more !))) refl (tt, (tt, tt)) $
    sets ! (of_opd ! (get ! refl)) refl (tt, (tt, tt)) $
    sets ! (agg ! (no_more !)) refl (tt, tt) $
    sets ! (agg ! (and_then ! (get ! refl) (no_more !))) refl (tt, (tt, tt)) $
    sets ! (agg ! (and_then ! (get ! refl) (and_then ! (get ! refl) (no_more !)))) refl typed $
    sets_last ! (agg ! (and_then ! (lit ! tt) (and_then ! (get ! refl) (no_more !)))) refl ok $
    exec ! 𝓣.C 𝓣.Λ (env e.locals l) (after 3 e.body) (at_ret _ (Wk.post y)) $
    sets ! (of_opd ! (get ! refl)) refl ok $
    returns ! (look_at ! 0 refl) $ free_all ! refl $
    as_written ! (ty_array (elτ E) n) b o $ use1 𝓛 (‵ (each (Spot E 𝓛 b o) 0 (replicate n None)))
    (row_of_room E 𝓛 b o n) $ move ! (1 ∷ []) $
    use1 𝓛 (‵ (Right E Z h (block_ptr b o) n))
    (right_made E 𝓛 (token Z h) (block_ptr b o) n (n * s)) $ pair_made E Z ! h b o n room $
    use1 𝓛 (‵ (Out.own_val (Ok (new_pair E Z h b o n)) (live 0 (vcons made vnil) ∷ [])))
    (ok_of 𝓛 (Both E Z) AE.the_row (new_pair E Z h b o n) made) $
    ends (Ok (new_pair E Z h b o n)) (live 0 (vcons made vnil)) (refl, refl, refl, refl))
    (λ refused.
    let nothing_had : Good (layout Out) (live 1 (vcons (vstruct vnil) vnil)) =
    (tt, (record { fits = lit< tt }, (tt, tt))) in
    lands_as ! refused refl (Answer-typed false 0 0) $ first ! $
    switches_on ! (get_tag ! (vrt ! refl (fld ! refl (stop !))) (whole !)) $
    exec ! 𝓣.C 𝓣.Λ (env e.locals l) (arm_body 1 both) Then $
    sets ! (of_opd ! (get_in ! (vrt ! refl (fld ! refl (stop !)))
    (in_variant ! 1 0 refl refl (whole !)))) refl (tt, tt) $
    sets_last ! (agg ! (and_then ! (lit ! tt) (and_then ! (get ! refl) (no_more !)))) refl
    nothing_had $
    exec ! 𝓣.C 𝓣.Λ (env e.locals l) (after 3 e.body) (at_ret _ (Wk.post y)) $
    sets ! (of_opd ! (get ! refl)) refl nothing_had $
    returns ! (look_at ! 0 refl) $ free_all ! refl $
    owned ! Refusal (Is Refusal) (Struct-Makes 𝓛 (Declared.shape AE.the_type) tt) tt
    (vstruct vnil ∷ []) (tt, (refl, tt)) $
    use1 𝓛 (‵ (Out.own_val (Err (record {})) (live 1 (vcons (vstruct vnil) vnil) ∷ [])))
    (err_of 𝓛 (Both E Z) AE.the_row (record {}) (vstruct vnil)) $
    ends (Err (record {})) (live 1 (vcons (vstruct vnil) vnil)) tt))))))
