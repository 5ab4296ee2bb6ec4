-- The request is counted, and fails or is passed on. A block that grew is counted as one more, and the old one as deallocated. Assumes `Logic`.
use Rattle.aa_watched.proofs.Watching.{ℕ, ◌<◌, ◌^◌, [], ◌∷◌, refl, ap, w64, true, false, Ok, Err, bool, unit, Al, seen, token, Answer, answer_val, Answer-typed, Answer-Ok, Answer-err, after, front, arm_body, proved, inst_fn, a_type, dcons, dnil, bounded, Fn, Body, Val, vint, vptr, ftrue, fsep, flft, ent, emp, fst∗, never, ◌⊑◌, ⊑_trans, fact, tables, size, align, capped, Env, Wp, WpFn, after_seq, at_return, alloc_all, pass_all, free_all, look_at, get, get_in, get_tag, through, sets, sets_last, lands_as, env, ‵, raw, ◌⊛◌, later, ◌$◌, ◌∵◌, !, qed, move, keep, drop, use0, use1, use2, split, split3, join, fsplit, feq_l, await, done, prop, at_ret, any_q, Sq, Post, suffices, group, regoal, sem, vrt, in_variant, agg, whole, stop, fld, addr, lit, no_more, and_then, of_opd, first, branches, skips, switches_on, exec, returns, returns_within, enter, shr_dup, uint_vals, uint_Tells, layout, param, owns, Ptr, block_ptr, null_ptr, ptr_val, in_a_block, rawptr_vals, rawptr_Tells, shr_vals, types_at, nothing, only, heard, calls_at, framed, walk_of, ends_at, inner_of, dropped, gone, trues, spent, ended, Wa, watch_of, watched_by, ShouldFail, calling, calls, Notes, reaches}
use Rattle.aa_watched.proofs.Walk.{Fml, ffalse, ◌*◌, bin, subst, sym}
use base.Logic.{ex}
use prog.Capped.{capped_fits}
use types.ByLocal.{is}
use types.Run.{align_word, size_word}
use Rattle.std.specs.Allocator.{array_of, block_with_items, resized_if_ok}
use Rattle.std.proofs.alloc.Resizes.{Grows, Grows-Sized, Resized, Resizes, Resizes-gives, Resizes-goes, at_resizes, flagged, times_capped, wider}
use Rattle.aa_watched.specs.contracts.watched.WatchedAllocator.grow as F
use Rattle.aa_watched.proofs.watched.WatchedAllocator.grow.Statement.{statement}
use Rattle.aa_watched.proofs.watched.WatchedAllocator.grow.Code as code

pub grow_spec : {M : Type 1} → statement M
grow_spec 𝓤 𝓛 𝓜 𝓡 wired B W X L LW LX g d gw dw d' dw' inner watch _ _ =
    let Z : Al = record { row = B; laws = L; g = g; d = d; drops = d' } in let Y : Wa = record { row = W; laws = LW; g = gw; d = dw; drops = dw' } in
    let key = bounded (a_type ∷ a_type ∷ a_type ∷ []) (B, (W, (X, tt))) (dcons d (dcons dw (dcons d' (dcons dw' dnil)))) in
    let E = F.ended B W X g d gw dw d' dw' in let c = F.clauses B W X g d gw dw d' dw' 𝓛 𝓜.mem 𝓡.returns in let hs = dropped E.signature.params E.kept in
    let Wk = walk_of 𝓛 E hs c in let 𝓣 = tables 𝓤 𝓛.H 𝓜 𝓡 𝓡.env in let fn : Fn = inst_fn key code.function in
    proved 𝓛 E hs c 𝓜 𝓡 ((λ κs x f vs ok. gone 𝓛), ((λ κs x f vs ok. gone 𝓛), ((λ κs x f vs ok. gone 𝓛), ((λ κs x f vs ok. gone 𝓛), ((λ κs x f vs ok. gone 𝓛), tt)))))
    (F.Key.name key) fn (code.unfolded 𝓤 𝓛.H 𝓜 𝓡 wired (B, (W, (X, tt))) d dw d' dw')
    (λ κs. (shr_vals, (rawptr_vals, (uint_vals w64, (uint_vals w64, (uint_vals w64, tt)))))) (λ κs. ((λ r vs is. is.0), (rawptr_Tells, (uint_Tells w64, (uint_Tells w64, (uint_Tells w64, tt)))))) (λ κs qs bounds a xs are.
    let κ = κs.0 in let q = qs.0 in let κT = κs.1.1.1.0 in let qT = qs.1.1.1.0 in let r = a.0 in
    let len = a.1.1.0 in let old = a.1.1.1.0 in let new = a.1.1.1.1.0 in let s = size (layout X) in let al = capped (align (layout X)) in
    let fl = are.1.1.0.1 in let fo = are.1.1.1.0.1 in let fn' = are.1.1.1.1.0.1 in let al_fits = capped_fits (align (layout X)) in
    let heap : B.Denot = r.now.inner in let at = inner_of Z r.ref_ptr in let eye : W.Denot = r.now.watch in let spot = watch_of Z Y r.ref_ptr in
    let y : Ptr → Wk.Ghost = λ p. ((κs, qs, bounds, (r, (p, (len, (old, (new, tt))))), (shr_vals r, (rawptr_vals p, (uint_vals w64 len, (uint_vals w64 old, (uint_vals w64 new, tt)))))), xs) in
    let block : Ptr → Fml = λ p. block_with_items (token Z heap) (param 1 X) p len old xs in
    let Q = ShouldFail Y 𝓛 𝓜.mem 𝓡.returns in let N = Notes Y 𝓛 𝓜.mem 𝓡.returns in
    qed 𝓛 (((‵ (flft κ q) ⊛ ‵ (flft κs.1.0 qs.1.0) ⊛ ‵ (flft κs.1.1.0 qs.1.1.0) ⊛ ‵ (flft κT qT) ⊛ ‵ ftrue) ⊛ ‵ (owns (types_at E.signature.params κs) a (y a.1.0).0.4))
    ∷ (raw (fact 𝓤 (κs.1.0 ⊑ B.lives)) ⊛ raw (fact 𝓤 (κs.1.1.0 ⊑ W.lives)) ⊛ raw (fact 𝓤 (κT ⊑ X.lives)) ⊛ raw (fact 𝓤 (Grows X len old new)) ⊛ ‵ (block a.1.0)) ∷ []) ∵
    move ! (1 ∷ []) $ split3 ! $ heard ! (κs.1.0 ⊑ B.lives) (λ lives. heard ! (κs.1.1.0 ⊑ W.lives) (λ lives'. split3 ! $ heard ! (κT ⊑ X.lives) (λ livesT. heard ! (Grows X len old new) (λ grows.
    let lasts = ⊑_trans κ κs.1.1.0 W.lives bounds.1.0 lives' in let sized = Grows-Sized X len old new grows in
    let fits : new * s < 2 ^ 64 = wider (new * s) sized.3 in let old_fits : old * s < 2 ^ 64 = wider (old * s) sized.2 in
    let ask : Q.Ghost = calling Y 𝓛 𝓜.mem 𝓡.returns κ q eye spot (new * s) al in let freed : N.Ghost = calling Y 𝓛 𝓜.mem 𝓡.returns κ q eye spot (old * s) al in
    in_a_block ! a.1.0 block (fst∗ 𝓤 (never 𝓤) (sem 𝓛 (fsep ffalse (token Z heap (array_of (param 1 X) old) null_ptr)))) (λ b o is_block.
    let Ask = Resizes Z X (Grows X) 𝓛 𝓜.mem 𝓡.returns in let z : Ask.Ghost = at_resizes Z X (Grows X) 𝓛 𝓜.mem 𝓡.returns κ κT q qT at heap b o len old new xs in
    let left : Answer.Denot → Fml = resized_if_ok (token Z heap) (param 1 X) (block_ptr b o) len old new xs in
    let leaves : (x : Answer.Denot) (v : Val) → ent 𝓤 (emp 𝓤) (sem 𝓛 (Answer.own_val x (v ∷ [])))
    → Sq 𝓛 (‵ (left x) ∷ ‵ (flft κ q) ∷ ‵ (flft κT qT) ∷ ‵ (flft κs.1.0 qs.1.0) ∷ ‵ (flft κs.1.1.0 qs.1.1.0) ∷ []) (prop (Wk.post (y (block_ptr b o)) v)) = λ x v made.
    suffices ! _ (ends_at 𝓛 E hs c (y (block_ptr b o)) v x (tt, (tt, (tt, (tt, (tt, tt))))) (tt, (tt, (tt, (tt, (tt, tt)))))) $
    nothing ! $ move ! (3 ∷ 0 ∷ []) $ join ! $ move ! (4 ∷ 0 ∷ []) $ join ! $ move ! (3 ∷ 0 ∷ []) $ join ! $ move ! (2 ∷ 0 ∷ []) $ join ! $
    use0 𝓛 (‵ (Answer.own_val x (v ∷ []))) made $ use0 𝓛 (‵ (trues 𝓛 5)) (spent 𝓛 5) $ move ! (2 ∷ 0 ∷ 1 ∷ []) $ group ! 3 $ done ! in
    regoal ! (λ (p : Ptr). prop (WpFn 𝓤 𝓛.H 𝓣.C 𝓣.Λ fn (vptr r.ref_ptr.0 r.ref_ptr.1 ∷ ptr_val p ∷ vint w64 len ∷ vint w64 old ∷ vint w64 new ∷ []) (Wk.post (y p)))) is_block refl $
    move ! (1 ∷ []) $ split ! $ split ! $ move ! (2 ∷ []) $ fsplit ! $
    use1 𝓛 (‵ (seen Z κ at heap) ⊛ ‵ (watched_by Y κ eye spot)) (reaches Z Y 𝓛 κ r) $ split ! $ keep ! (4 ∷ 1 ∷ 3 ∷ 0 ∷ 5 ∷ []) $
    split3 ! $ move ! (2 ∷ []) $ split ! $ keep ! (4 ∷ 5 ∷ 6 ∷ 7 ∷ 0 ∷ 2 ∷ 3 ∷ []) $
    -- [the `&` to the watch; its token; the `&` to the inner allocator; the block; the elements' token; the others]
    enter ! _ _ _ _ _ $ alloc_all ! (λ l. pass_all ! refl ((tt, tt), ((tt, tt), ((tt, record { fits = fl }), ((tt, record { fits = fo }), ((tt, record { fits = fn' }), tt))))) $
    let En : Env 𝓤 𝓛.H = env fn.locals l in let body : Body = fn.body in let Ret = at_ret En (Wk.post (y (block_ptr b o))) in
    let Then : Post 𝓤 𝓛.H = any_q (after_seq 𝓤 𝓛.H (Wp 𝓤 𝓛.H 𝓣.C 𝓣.Λ En (after 7 body) (at_return 𝓤 𝓛.H En (Wk.post (y (block_ptr b o))))) (at_return 𝓤 𝓛.H En (Wk.post (y (block_ptr b o))))) in
    sets ! (is ! (bin ! (get ! refl) (size_word !) (record { fits = subst (λ (k : ℕ). k < 2 ^ 64) (sym (times_capped new s sized.3)) fits })) (ap (vint w64) (times_capped new s sized.3))) refl (tt, record { fits = fits }) $
    shr_dup ! W LW.shr_laws eye spot.0 spot.1 κ $ move ! (0 ∷ 2 ∷ []) $
    sets ! (addr ! (through ! refl (fld ! refl (stop !)))) refl (tt, tt) $
    use2 𝓛 (raw (Q.pre ask)) (calls Y 𝓛 𝓜.mem 𝓡.returns κ q eye spot (new * s) al lasts fits al_fits) $
    calls_at ! (framed 𝓤 𝓛.H 𝓜 𝓣) Q (watch.should_fail dw') ask (and_then ! (get ! refl) (and_then ! (get ! refl) (and_then ! (align_word !) (no_more !)))) (λ v.
    ended 𝓛 κ q 3 bool v (λ _. ftrue) _ ! tt (λ no. feq_l ! (λ told. drop ! $ lands_as ! (ap only told) refl (tt, tt) $
    -- [the token; the `&` to the watch; the `&` to the inner allocator; the block; the elements' token; the others]
    first ! $ branches ! (get ! refl)
    (λ _. sets ! (agg ! (no_more !)) refl (tt, tt) $ sets ! (agg ! (and_then ! (lit ! tt) (and_then ! (get ! refl) (no_more !)))) refl (Answer-typed false 0 0) $
    returns_within ! (Wk.post (y (block_ptr b o))) refl (look_at ! 0 refl) $ free_all ! refl $ keep ! (3 ∷ 0 ∷ 4 ∷ 5 ∷ 6 ∷ []) $ leaves (Err (record {})) (answer_val false 0 0) (Answer-err 𝓛))
    (λ _. skips ! $ exec ! 𝓣.C 𝓣.Λ En (after 4 body) Ret $
    sets ! (addr ! (through ! refl (fld ! refl (stop !)))) refl (tt, tt) $ move ! (3 ∷ 2 ∷ 0 ∷ 4 ∷ []) $ group ! 4 $
    use1 𝓛 (raw (Ask.pre z)) (Resizes-goes Z X (Grows X) 𝓛 𝓜.mem 𝓡.returns κ κT q qT at heap b o len old new xs (⊑_trans κ κs.1.0 B.lives bounds.0 lives) livesT grows fl fo fn') $
    calls_at ! (framed 𝓤 𝓛.H 𝓜 𝓣) Ask (inner.grow d' X LX) z (and_then ! (get ! refl) (and_then ! (get ! refl) (and_then ! (get ! refl) (and_then ! (get ! refl) (and_then ! (get ! refl) (no_more !)))))) (λ w.
    use1 𝓛 (later (raw (ex 𝓤 (Resized Z X (Grows X) 𝓛 𝓜.mem 𝓡.returns κ κT q qT at heap b o len old new xs w)) ⊛ ‵ (flft κ q) ⊛ ‵ (flft κT qT)))
    (Resizes-gives Z X (Grows X) 𝓛 𝓜.mem 𝓡.returns κ κT q qT at heap b o len old new xs w) $ await ! tt $ split3 ! $
    flagged ! w left
    (λ b' o' is_ok. lands_as ! is_ok refl (Answer-typed true b' o') $
    first ! $ switches_on ! (get_tag ! (vrt ! refl (fld ! refl (stop !))) (whole !)) $ exec ! 𝓣.C 𝓣.Λ En (arm_body 0 (front (after 6 body))) Then $
    sets_last ! (of_opd ! (get_in ! (vrt ! refl (fld ! refl (stop !))) (in_variant ! 0 0 refl refl (whole !)))) refl (tt, tt) $ exec ! 𝓣.C 𝓣.Λ En (after 7 body) Ret $
    -- [the block; the token; the elements' token; the `&` to the watch; the others]
    move ! (3 ∷ []) $ shr_dup ! W LW.shr_laws eye spot.0 spot.1 κ $ move ! (0 ∷ 3 ∷ []) $
    sets ! (addr ! (through ! refl (fld ! refl (stop !)))) refl (tt, tt) $
    use2 𝓛 (raw (N.pre ask)) (calls Y 𝓛 𝓜.mem 𝓡.returns κ q eye spot (new * s) al lasts fits al_fits) $
    calls_at ! (framed 𝓤 𝓛.H 𝓜 𝓣) N (watch.on_allocate dw') ask (and_then ! (get ! refl) (and_then ! (get ! refl) (and_then ! (align_word !) (no_more !)))) (λ u.
    ended 𝓛 κ q 3 unit u (λ _. ftrue) _ ! tt (λ _. feq_l ! (λ counted. drop ! $ lands_as ! (ap only counted) refl (tt, tt) $
    -- [the token; the `&` to the watch; the block; the elements' token; the others]
    sets ! (addr ! (through ! refl (fld ! refl (stop !)))) refl (tt, tt) $
    sets ! (is ! (bin ! (get ! refl) (size_word !) (record { fits = subst (λ (k : ℕ). k < 2 ^ 64) (sym (times_capped old s sized.2)) old_fits })) (ap (vint w64) (times_capped old s sized.2))) refl (tt, record { fits = old_fits }) $
    move ! (1 ∷ 0 ∷ []) $
    use2 𝓛 (raw (N.pre freed)) (calls Y 𝓛 𝓜.mem 𝓡.returns κ q eye spot (old * s) al lasts old_fits al_fits) $
    calls_at ! (framed 𝓤 𝓛.H 𝓜 𝓣) N (watch.on_deallocate dw') freed (and_then ! (get ! refl) (and_then ! (get ! refl) (and_then ! (align_word !) (no_more !)))) (λ u'.
    ended 𝓛 κ q 3 unit u' (λ _. ftrue) _ ! tt (λ _. feq_l ! (λ counted'. drop ! $ lands_as ! (ap only counted') refl (tt, tt) $
    sets ! (agg ! (and_then ! (lit ! tt) (and_then ! (get ! refl) (no_more !)))) refl (Answer-typed true b' o') $ returns ! (look_at ! 0 refl) $ free_all ! refl $
    move ! (1 ∷ 0 ∷ []) $ leaves (Ok (block_ptr b' o')) (answer_val true b' o') (Answer-Ok 𝓛 b' o'))))))))
    (λ is_err. lands_as ! is_err refl (Answer-typed false 0 0) $
    first ! $ switches_on ! (get_tag ! (vrt ! refl (fld ! refl (stop !))) (whole !)) $ exec ! 𝓣.C 𝓣.Λ En (arm_body 1 (front (after 6 body))) Then $
    sets ! (addr ! (through ! refl (fld ! refl (stop !)))) refl (tt, tt) $ move ! (3 ∷ 1 ∷ []) $
    use2 𝓛 (raw (N.pre ask)) (calls Y 𝓛 𝓜.mem 𝓡.returns κ q eye spot (new * s) al lasts fits al_fits) $
    calls_at ! (framed 𝓤 𝓛.H 𝓜 𝓣) N (watch.on_failure dw') ask (and_then ! (get ! refl) (and_then ! (get ! refl) (and_then ! (align_word !) (no_more !)))) (λ u.
    ended 𝓛 κ q 3 unit u (λ _. ftrue) _ ! tt (λ _. feq_l ! (λ counted. drop ! $ lands_as ! (ap only counted) refl (tt, tt) $
    sets ! (agg ! (no_more !)) refl (tt, tt) $ sets ! (agg ! (and_then ! (lit ! tt) (and_then ! (get ! refl) (no_more !)))) refl (Answer-typed false 0 0) $
    returns_within ! (Wk.post (y (block_ptr b o))) refl (look_at ! 0 refl) $ free_all ! refl $ move ! (1 ∷ 0 ∷ []) $ leaves (Err (record {})) (answer_val false 0 0) (Answer-err 𝓛)))))))))))))))))
