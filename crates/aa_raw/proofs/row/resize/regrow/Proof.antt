-- The memory of a row is made larger by its allocator. Assumes `Logic`.
use Rattle.aa_raw.proofs.{ !, After, Al, Answer, Answer-typed, Body, BodyAt, Bool, Cl, El, Goes-dropped, Goes-ref, Grows, Incl-trans, IsCapacity, IsRun, List, None, R, RefOf, Resized, Resizes, Resizes-gives, Resizes-goes, Rw, Sq, Stays, T as So, Val, Vals, WT, Wp, [], after, after_seq, alloc_all, and_then, any_q, arith, arm_body, assigns, at_resizes, at_ret, at_return, await, block_args as args, block_ptr, blocks, calls_at_last, claim_of, closes_block, done, el_x, ends_at, enter, env, ex, exec, fact, false, false_lit, false≢true, fbor, feq_i, first, fjoin, fjoin3, flagged, fld, flft, fobs, framed, free_all, fsplit, fsplit3, ftrue, get, get_in, get_tag, group, has_ty, head, heard, in_variant, inst_fn, is, join, keep, lands_last, later, layout, length, load, look_at, look_in, lose as drop, mem, move, mut_Tells, mut_vals, named, never_zst, no_more, nothing, of_opd, opens_block, owns, param, pass_all, plain, prop, proved, qed, raw, refl, replicate, resized, resized_if_ok, returns, says_two, sets, sets_last, shr_Tells, shr_vals, split, split3, stay_dropped, stay_ref, stop, store_in, sub, subst, suffices, switches_on, sym, sz, tables, tables_of, take, through, token, true, true_lit, true≢false, types_at, uint_Tells, uint_vals, use1, usize, values_of, vbool, vrt, w64, walk_of, whole, yes, ‵, ℕ, ◌$◌, ◌*◌, ◌++◌, ◌-◌, ◌<◌, ◌^◌, ◌∙◌, ◌∵◌, ◌∷◌, ◌≡◌, ◌≤◌, ◌⊑◌, ◌⊛◌}
use Rattle.aa_raw.specs.contracts.row.resize.regrow as f
use Rattle.aa_raw.proofs.row.resize.regrow.Code as code

pub regrow_spec : {M : Type 1} → Rattle.aa_raw.proofs.row.resize.regrow.Statement.statement M
unfolding tables_of
regrow_spec 𝓤 𝓛 𝓜 𝓡 wired X W LX LW g dict dd met md =
    let E : El = record { row = X; laws = LX } in
    let Z : Al = record { row = W; laws = LW; g = g; d = dict; drops = dd } in
    let key = args (record { row = X; laws = LX }) Z in
    let number = stay_dropped {n = 5} (plain (λ _. usize)) yes in
    let stayed : Stays (f.ended E.row Z.row Z.g Z.d Z.drops).signature.params
    (f.ended E.row Z.row Z.g Z.d Z.drops).kept = (
      stay_dropped (RefOf (0 ∷ []) tt (plain (λ _. param 1 Z.row)) (λ _. tt)) yes,
      (
        stay_ref (1 ∷ []) tt (plain (λ _. Rw E)),
        (stay_ref (2 ∷ []) tt (plain (λ _. Cl E Z)), (number, (number, (number, tt)))),
      ),
    ) in
    let T = f.ended X W g dict dd in let c = f.clauses X W g dict dd 𝓛 𝓜.mem 𝓡.returns in
    let e = inst_fn key code.function in let Wk = walk_of 𝓛 T stayed c in
    let 𝓣 = tables 𝓤 𝓛.H 𝓜 𝓡 𝓡.env in
    let gone = Goes-dropped 𝓛 5 (plain (λ _. usize)) yes (λ κs x w. refl) in
    proved 𝓛 T stayed c 𝓜 𝓡 (
      Goes-dropped 𝓛 5 (RefOf (0 ∷ []) tt (plain (λ _. param 1 W)) (λ _. tt)) yes (λ κs x w. refl),
      (
        Goes-ref 𝓛 5 1 tt (plain (λ _. Rw E)),
        (Goes-ref 𝓛 5 2 tt (plain (λ _. Cl E Z)), (gone, (gone, (gone, tt)))),
      ),
    )
    (f.Key.name key) e (code.unfolded 𝓤 𝓛.H 𝓜 𝓡 wired (X, (W, tt)) dict dd)
    (λ κs. (
      shr_vals,
      (mut_vals, (mut_vals, (uint_vals w64, (uint_vals w64, (uint_vals w64, tt))))),
    ))
    (λ κs. (
      shr_Tells (named 0) κs.0 (param 1 W),
      (
        mut_Tells (named 1) κs.1.0 (Rw E),
        (
          mut_Tells (named 2) κs.1.1.0 (Cl E Z),
          (uint_Tells w64, (uint_Tells w64, (uint_Tells w64, tt))),
        ),
      ),
    )) (λ κs qs bounds a none are.
    let κ = κs.0 in let q = qs.0 in let κT = κs.1.1.1.0 in let qT = qs.1.1.1.0 in
    let rp : ℕ × ℕ = a.0.ref_ptr in let h = a.0.now in
    let rb = a.1.0.ref_ptr.0 in let ro = a.1.0.ref_ptr.1 in let d = a.1.0.now in
    let γ = a.1.0.ghost_name in
    let cb = a.1.1.0.ref_ptr.0 in let co = a.1.1.0.ref_ptr.1 in let d' = a.1.1.0.now in
    let γ' = a.1.1.0.ghost_name in
    let n = a.1.1.1.0 in let old = a.1.1.1.1.0 in let new = a.1.1.1.1.1.0 in let s = sz E in
    let fn = are.1.1.1.0.1 in let fo = are.1.1.1.1.0.1 in let fm = are.1.1.1.1.1.0.1 in
    let vss : Vals T.signature κs = (
      shr_vals a.0,
      (
        mut_vals a.1.0,
        (mut_vals a.1.1.0, (uint_vals w64 n, (uint_vals w64 old, (uint_vals w64 new, tt)))),
      ),
    ) in
    let y : Wk.Ghost = ((κs, qs, bounds, a, vss), tt) in
    let Filled : Type 0 = IsRun d.places 0 n × (length d.places ≡ old) in
    let Held : Type 0 = (d'.ptr ≡ d.ptr) × (d'.len ≡ old) × (d'.alloc ≡ h) in
    let Sizes : Type 0 = (0 < old * s) × (old ≤ new) × IsCapacity (R E) new in
    let front = take n d.places in let others = ‵ (flft κs.1.1.1.1.0 qs.1.1.1.1.0) ⊛ ‵ ftrue in
    let Good : Bool → (Rw E).Denot → (Cl E Z).Denot
    → Type 0 = λ r w w'.
    (r ≡ true → (w'.ptr ≡ w.ptr) × (w'.len ≡ new) × (w'.alloc ≡ h)
    × (w.places ≡ front ++ replicate (new - n) None))
    × (r ≡ false → (w' ≡ d') × (w.ptr ≡ d.ptr) × (w.places ≡ front ++ replicate (old - n) None)) in
    let ends : (r : Bool) (w : (Rw E).Denot) (w' : (Cl E Z).Denot) → Good r w w'
    → Sq 𝓛 (‵ (fobs γ ((Rw E).coded.code w)) ∷ ‵ (fbor κs.1.0 (BodyAt (mem (Rw E)) rb ro γ))
    ∷ ‵ (flft κs.1.0 qs.1.0)
    ∷ ‵ (fobs γ' ((Cl E Z).coded.code w')) ∷ ‵ (fbor κs.1.1.0 (BodyAt (mem (Cl E Z)) cb co γ'))
    ∷ ‵ (flft κs.1.1.0 qs.1.1.0) ∷ ‵ (flft κ q) ∷ ‵ (flft κT qT) ∷ others ∷ [])
    (prop (Wk.post y (vbool r))) = λ r w w' good.
    suffices ! _ (ends_at 𝓛 T stayed c y (vbool r) r (tt, (w, (w', (tt, (tt, (tt, tt))))))
    (tt, (tt, (tt, (tt, (tt, (tt, tt))))))) $ says_two ! good $
    move ! (3 ∷ 4 ∷ []) $ feq_i ! _ (mut_vals a.1.1.0) _ refl $ fjoin3 ! $ nothing ! $ nothing ! $
    fjoin ! $ nothing ! $ fjoin ! $ nothing ! $ fjoin ! $ move ! (1 ∷ 0 ∷ []) $ fjoin ! $
    move ! (1 ∷ 2 ∷ []) $ feq_i ! _ (mut_vals a.1.0) _ refl $ fjoin3 ! $ fjoin ! $ nothing ! $
    fjoin ! $
    move ! (4 ∷ 5 ∷ []) $ join ! $ move ! (3 ∷ 0 ∷ []) $ join ! $ move ! (2 ∷ 0 ∷ []) $ join ! $
    move ! (2 ∷ 0 ∷ []) $ join ! $
    feq_i ! (List Val) (vbool r ∷ []) (vbool r ∷ []) refl $ move ! (1 ∷ 2 ∷ 0 ∷ []) $ done ! in
    qed 𝓛 (((‵ (flft κ q) ⊛ ‵ (flft κs.1.0 qs.1.0) ⊛ ‵ (flft κs.1.1.0 qs.1.1.0) ⊛ ‵ (flft κT qT)
    ⊛ ‵ (flft κs.1.1.1.1.0 qs.1.1.1.1.0) ⊛ ‵ ftrue)
    ⊛ ‵ (owns (types_at T.signature.params κs) a vss))
    ∷ (raw (fact 𝓤 (κT ⊑ X.lives)) ⊛ raw (fact 𝓤 (κs.1.1.1.1.0 ⊑ W.lives)) ⊛ raw (fact 𝓤 Filled)
    ⊛ raw (fact 𝓤 Held) ⊛ raw (fact 𝓤 Sizes)) ∷ []) ∵
    move ! (1 ∷ []) $ split ! $
    heard ! (κT ⊑ X.lives)
    (λ livesT. split ! $ heard ! (κs.1.1.1.1.0 ⊑ W.lives)
    (λ lives. split ! $
    heard ! Filled (λ filled. split ! $ heard ! Held (λ held. heard ! Sizes (λ sizes.
    let it = values_of front filled.0.1 in let xs : List (el_x E) = it.0 in
    let le : n ≤ old = omega (arith, filled.0.0, filled.1) in
    split ! $ split ! $ move ! (1 ∷ []) $ split3 ! $ move ! (2 ∷ []) $ split ! $ move ! (5 ∷ []) $
    -- [the parameters; the tokens of T and A, of the row and the claim, of the allocator]
    fsplit ! $ fsplit ! $ drop ! $ move ! (1 ∷ []) $ fsplit ! $ fsplit3 ! $ drop ! $
    move ! (2 ∷ []) $ fsplit ! $ fsplit3 ! $
    keep ! (1 ∷ 2 ∷ 10 ∷ 4 ∷ 5 ∷ 9 ∷ 6 ∷ 11 ∷ 7 ∷ 8 ∷ []) $
    enter ! _ _ _ _ _ $
    alloc_all ! (λ l.
    pass_all ! refl (
      (tt, tt),
      (
        (tt, tt),
        (
          (tt, tt),
          (
            (tt, record { fits = fn }),
            ((tt, record { fits = fo }), ((tt, record { fits = fm }), tt)),
          ),
        ),
      ),
    ) $
    let En = env e.locals l in let Ret : After 𝓤 𝓛.H = at_ret En (Wk.post y) in
    let both : Body = head (after 2 e.body) in
    let Then : After 𝓤 𝓛.H = any_q
    (after_seq 𝓤 𝓛.H (Wp 𝓤 𝓛.H 𝓣.C 𝓣.Λ En (after 3 e.body) (at_return 𝓤 𝓛.H En (Wk.post y)))
    (at_return 𝓤 𝓛.H En (Wk.post y))) in
    opens_block E Z h n old rb ro cb co xs ! tt d d' held filled.1 le sizes.0 it.1
    (λ b o lies small.
    first ! $ blocks ! $
    sets ! (of_opd ! (load ! (through ! refl (fld ! refl (stop !)))
    (look_in ! 1 (sub ! 0 refl (whole !))))) refl (tt, tt) $
    let Ask = Resizes Z X (Grows X) 𝓛 𝓜.mem 𝓡.returns in
    let z : Ask.Ghost = at_resizes Z X (Grows X) 𝓛 𝓜.mem 𝓡.returns κ κT q qT rp h b o n old new
    xs in
    move ! (0 ∷ 9 ∷ 10 ∷ 11 ∷ []) $ group ! 4 $
    use1 𝓛 (raw (Ask.pre z))
    (Resizes-goes Z X (Grows X) 𝓛 𝓜.mem 𝓡.returns κ κT q qT rp h b o n old new xs
    (Incl-trans bounds.0 lives) livesT (le, sizes.1, sizes.2.0) fn fo fm) $
    calls_at_last ! (framed 𝓤 𝓛.H 𝓜 𝓣) Ask (met.grow dd X LX) z
    (and_then ! (get ! refl)
    (and_then ! (get ! refl)
    (and_then ! (get ! refl) (and_then ! (get ! refl) (and_then ! (get ! refl) (no_more !))))))
    (λ v.
    use1 𝓛 (later (raw
    (ex 𝓤 (Resized Z X (Grows X) 𝓛 𝓜.mem 𝓡.returns κ κT q qT rp h b o n old new xs v))
    ⊛ ‵ (flft κ q) ⊛ ‵ (flft κT qT)))
    (Resizes-gives Z X (Grows X) 𝓛 𝓜.mem 𝓡.returns κ κT q qT rp h b o n old new xs v) $
    await ! tt $ split3 ! $
    flagged ! v (resized_if_ok (token Z h) (R E) (block_ptr b o) n old new xs)
    (λ b' o' is_ok. lands_last ! refl
    (subst (λ (u : Val). So (has_ty (layout Answer) u) × WT u) (sym is_ok)
    (Answer-typed true b' o')) $ exec ! 𝓣.C 𝓣.Λ En (after 1 e.body) Ret $
    sets ! (is ! (of_opd ! (get ! refl)) is_ok) refl (Answer-typed true b' o') $ first ! $
    switches_on ! (get_tag ! (vrt ! refl (fld ! refl (stop !))) (whole !)) $
    exec ! 𝓣.C 𝓣.Λ En (arm_body 0 both) Then $
    sets ! (of_opd ! (get_in ! (vrt ! refl (fld ! refl (stop !)))
    (in_variant ! 0 0 refl refl (whole !)))) refl (tt, tt) $
    assigns ! (of_opd ! (get ! refl)) (through ! refl (fld ! refl (stop !)))
    (store_in ! 3 (sub ! 0 refl (whole !)) (tt, tt)) $
    sets_last ! (of_opd ! (true_lit !)) refl (tt, tt) $ exec ! 𝓣.C 𝓣.Λ En (after 3 e.body) Ret $
    sets ! (of_opd ! (get ! refl)) refl (tt, tt) $
    move ! (0 ∷ 3 ∷ 4 ∷ 5 ∷ 6 ∷ 7 ∷ 8 ∷ 9 ∷ 10 ∷ []) $
    closes_block E Z h n new rb ro cb co xs ! tt b' o' front it.1
    (omega (arith, le, sizes.1)) sizes.2 $ returns ! (look_at ! 0 refl) $ free_all ! refl $
    ends true (resized E Z b' o' front (new - n)) (claim_of E Z h (block_ptr b' o') new)
    ((λ _. (refl, refl, refl, refl)), (λ wrong. absurd (true≢false wrong))))
    (λ is_err. let few : old * s < 2 ^ 63 = subst (λ (k : ℕ). k * s < 2 ^ 63) filled.1 small in
    lands_last ! refl
    (subst (λ (u : Val). So (has_ty (layout Answer) u) × WT u) (sym is_err)
    (Answer-typed false 0 0)) $ exec ! 𝓣.C 𝓣.Λ En (after 1 e.body) Ret $
    sets ! (is ! (of_opd ! (get ! refl)) is_err) refl (Answer-typed false 0 0) $ first ! $
    switches_on ! (get_tag ! (vrt ! refl (fld ! refl (stop !))) (whole !)) $
    exec ! 𝓣.C 𝓣.Λ En (arm_body 1 both) Then $
    sets_last ! (of_opd ! (false_lit !)) refl (tt, tt) $ exec ! 𝓣.C 𝓣.Λ En (after 3 e.body) Ret $
    sets ! (of_opd ! (get ! refl)) refl (tt, tt) $
    move ! (0 ∷ 3 ∷ 4 ∷ 5 ∷ 6 ∷ 7 ∷ 8 ∷ 9 ∷ 10 ∷ []) $
    closes_block E Z h n old rb ro cb co xs ! tt b o front it.1 le
    (few, never_zst old old s sizes.0) $ returns ! (look_at ! 0 refl) $ free_all ! refl $
    ends false (resized E Z b o front (old - n)) (claim_of E Z h (block_ptr b o) old) (
      (λ wrong. absurd (false≢true wrong)),
      (λ _. (
        sym (λ k. claim_of E Z (held.2 k) ((held.0 ∙ lies) k) (held.1 k)),
        sym lies,
        refl,
      )),
    )))))))))))
