-- The chooser is called, and the allocator that it chooses deallocates the block. Assumes `Logic`.
use Rattle.aa_allocators.proofs.Choosing.{◌≡◌, Bool, List, [], ◌∷◌, refl, w64, true, false, sym, owned_block, Al, seen, token, Gives, at_gives, Gives-goes, Gives-Gives, after, proved, inst_fn, Fn, Body, Val, vunit, vint, vptr, ftrue, flft, fst∗, never, ◌⊑◌, ⊑_trans, fact, tables, size, align, capped, Env, WpFn, alloc_all, pass_all, free_all, look_at, get, through, sets, lands_as, env, ‵, raw, ◌⊛◌, later, ◌$◌, ◌∵◌, !, qed, move, keep, use0, use1, use2, split, split3, join, fsplit, feq_i, await, done, prop, at_ret, Sq, given, learn, suffices, group, regoal, rewrite, sem, stop, fld, addr, no_more, and_then, of_opd, first, branches, skips, exec, returns, returns_within, enter, unit_lit, uint_vals, uint_Tells, owns, Ptr, block_ptr, null_ptr, ptr_val, in_a_block, rawptr_vals, rawptr_Tells, shr_vals, types_at, nothing, heard, calls_at, framed, walk_of, ends_at, inner_of, dropped, gone, trues, spent, Ch, chooser_at, generics, second_of, chooser_of, reaches, Chooses, at_call, calls, told, at_choice, is_true, is_false, chosen_right, right_of}
use Rattle.aa_allocators.specs.contracts.choice.ChoiceAllocator.deallocate as F
use Rattle.aa_allocators.proofs.choice.ChoiceAllocator.deallocate.Statement.{statement}
use Rattle.aa_allocators.proofs.choice.ChoiceAllocator.deallocate.Code as code

pub deallocate_spec : {M : Type 1} → statement M
deallocate_spec 𝓤 𝓛 𝓜 𝓡 wired B C P LB LC LP g d gc dc gp dp d' dc' dp' inner inner' asked drops drops' drops'' =
    let Z : Al = record { row = B; laws = LB; g = g; d = d; drops = d' } in let X : Al = record { row = C; laws = LC; g = gc; d = dc; drops = dc' } in
    let Y : Ch = record { row = P; laws = LP; g = gp; d = dp; drops = dp' } in
    let E = F.ended B C P g d gc dc gp dp d' dc' dp' in let c = F.clauses B C P g d gc dc gp dp d' dc' dp' 𝓛 𝓜.mem 𝓡.returns in let hs = dropped E.signature.params E.kept in
    let Wk = walk_of 𝓛 E hs c in let 𝓣 = tables 𝓤 𝓛.H 𝓜 𝓡 𝓡.env in let fn : Fn = inst_fn (generics Z X Y) code.function in
    proved 𝓛 E hs c 𝓜 𝓡 ((λ κs x f vs ok. gone 𝓛), ((λ κs x f vs ok. gone 𝓛), ((λ κs x f vs ok. gone 𝓛), ((λ κs x f vs ok. gone 𝓛), tt))))
    (F.Key.name (generics Z X Y)) fn (code.unfolded 𝓤 𝓛.H 𝓜 𝓡 wired (B, (C, (P, tt))) d dc dp d' dc' dp')
    (λ κs. (shr_vals, (rawptr_vals, (uint_vals w64, (uint_vals w64, tt))))) (λ κs. ((λ r vs is. is.0), (rawptr_Tells, (uint_Tells w64, (uint_Tells w64, tt))))) (λ κs qs bounds a τ are.
    let κ = κs.0 in let q = qs.0 in let r = a.0 in let n = a.1.1.0 in let al = a.1.1.1.0 in let n_fits = are.1.1.0.1 in let al_fits = are.1.1.1.0.1 in
    let heap : B.Denot = r.now.first in let at = inner_of Z r.ref_ptr in let heap' : C.Denot = r.now.second in let at' = second_of Z X Y r.ref_ptr in
    let plan : P.Denot = r.now.chooser in let spot = chooser_of Z X Y r.ref_ptr in
    let y : Ptr → Wk.Ghost = λ p. ((κs, qs, bounds, (r, (p, (n, (al, tt)))), (shr_vals r, (rawptr_vals p, (uint_vals w64 n, (uint_vals w64 al, tt))))), τ) in
    let Fits : Type 0 = (capped (size τ) ≡ n) × (capped (align τ) ≡ al) in
    let is_first = gp.is_first plan in let right = chosen_right is_first (token Z heap) (token X heap') in
    let Q = Chooses Y 𝓛 𝓜.mem 𝓡.returns in let ask : Q.Ghost = at_call Y 𝓛 𝓜.mem 𝓡.returns κ q plan spot n al in
    qed 𝓛 (((‵ (flft κ q) ⊛ ‵ (flft κs.1.0 qs.1.0) ⊛ ‵ (flft κs.1.1.0 qs.1.1.0) ⊛ ‵ (flft κs.1.1.1.0 qs.1.1.1.0) ⊛ ‵ ftrue) ⊛ ‵ (owns (types_at E.signature.params κs) a (y a.1.0).0.4))
    ∷ (raw (fact 𝓤 (κs.1.0 ⊑ B.lives)) ⊛ raw (fact 𝓤 (κs.1.1.0 ⊑ C.lives)) ⊛ raw (fact 𝓤 (κs.1.1.1.0 ⊑ P.lives)) ⊛ raw (fact 𝓤 Fits) ⊛ ‵ (owned_block right τ a.1.0)) ∷ []) ∵
    move ! (1 ∷ []) $ split3 ! $ heard ! _ (λ lives. heard ! _ (λ lives'. split3 ! $ heard ! _ (λ lives''. let lasts = ⊑_trans κ κs.1.1.1.0 P.lives bounds.1.1.0 lives'' in heard ! Fits (λ fits.
    in_a_block ! a.1.0 (λ p. owned_block right τ p) (fst∗ 𝓤 (never 𝓤) (sem 𝓛 (right τ null_ptr))) (λ b o is_block.
    regoal ! (λ (p : Ptr). prop (WpFn 𝓤 𝓛.H 𝓣.C 𝓣.Λ fn (vptr r.ref_ptr.0 r.ref_ptr.1 ∷ ptr_val p ∷ vint w64 n ∷ vint w64 al ∷ []) (Wk.post (y p)))) is_block refl $
    let G = Gives Z 𝓛 𝓜.mem 𝓡.returns in let give : G.Ghost = at_gives Z 𝓛 𝓜.mem 𝓡.returns κ q at heap b o n al τ in
    let I = Gives X 𝓛 𝓜.mem 𝓡.returns in let give' : I.Ghost = at_gives X 𝓛 𝓜.mem 𝓡.returns κ q at' heap' b o n al τ in
    let Right = λ (x : Bool). ‵ (right_of x (token Z heap) (token X heap') τ (block_ptr b o)) in
    let ends : Sq 𝓛 (‵ (flft κ q) ∷ (‵ (flft κs.1.0 qs.1.0) ⊛ ‵ (flft κs.1.1.0 qs.1.1.0) ⊛ ‵ (flft κs.1.1.1.0 qs.1.1.1.0) ⊛ ‵ ftrue) ∷ []) (prop (Wk.post (y (block_ptr b o)) vunit)) =
    suffices ! _ (ends_at 𝓛 E hs c (y (block_ptr b o)) vunit tt (tt, (tt, (tt, (tt, tt)))) (tt, (tt, (tt, (tt, tt))))) $
    join ! $ nothing ! $ feq_i ! (List Val) (vunit ∷ []) (vunit ∷ []) refl $ use0 𝓛 (‵ (trues 𝓛 4)) (spent 𝓛 4) $ move ! (3 ∷ 0 ∷ 1 ∷ []) $ group ! 3 $ done ! in
    move ! (1 ∷ []) $ split ! $ split ! $ move ! (2 ∷ []) $ fsplit ! $
    use1 𝓛 (‵ (seen Z κ at heap) ⊛ ‵ (seen X κ at' heap') ⊛ ‵ (chooser_at Y κ plan spot)) (reaches Z X Y 𝓛 κ r) $ split3 ! $ keep ! (2 ∷ 4 ∷ 0 ∷ 1 ∷ 6 ∷ 5 ∷ []) $
    -- [the `&` to the chooser; its token; the `&`s to the two allocators; the block; the other tokens]
    enter ! _ _ _ _ _ $ alloc_all ! (λ l. pass_all ! refl ((tt, tt), ((tt, tt), ((tt, record { fits = n_fits }), ((tt, record { fits = al_fits }), tt)))) $
    let En : Env 𝓤 𝓛.H = env fn.locals l in let body : Body = fn.body in
    sets ! (addr ! (through ! refl (fld ! refl (stop !)))) refl (tt, tt) $
    use2 𝓛 (raw (Q.pre ask)) (calls Y 𝓛 𝓜.mem 𝓡.returns κ q plan spot n al lasts n_fits al_fits) $
    calls_at ! (framed 𝓤 𝓛.H 𝓜 𝓣) Q (asked.is_first dp') ask (and_then ! (get ! refl) (and_then ! (get ! refl) (and_then ! (get ! refl) (no_more !)))) (λ v.
    told 𝓛 κ q v (λ x. x ≡ is_first n al) _ ! tt (λ x e is. lands_as ! e refl (tt, tt) $
    -- [the token; the `&`s to the two allocators; the block; the other tokens]
    first ! $ branches ! (get ! refl)
    (λ yes. sets ! (addr ! (through ! refl (fld ! refl (stop !)))) refl (tt, tt) $ move ! (3 ∷ []) $ fsplit ! $ move ! (1 ∷ []) $
    rewrite ! 0 Right (sym (at_choice is_first τ n al x true fits (is_true x yes) is)) refl $ move ! (1 ∷ 0 ∷ 3 ∷ 2 ∷ []) $ group ! 4 $
    use1 𝓛 (raw (G.pre give)) (Gives-goes Z 𝓛 𝓜.mem 𝓡.returns κ q at heap (⊑_trans κ κs.1.0 B.lives bounds.0 lives) b o n al τ fits.0 fits.1 n_fits al_fits) $
    calls_at ! (framed 𝓤 𝓛.H 𝓜 𝓣) G (inner.deallocate d') give (and_then ! (get ! refl) (and_then ! (get ! refl) (and_then ! (get ! refl) (and_then ! (get ! refl) (no_more !))))) (λ u.
    use1 𝓛 (later (given (u ≡ vunit) (‵ (flft κ q)))) (Gives-Gives Z 𝓛 𝓜.mem 𝓡.returns κ q at heap b o n al τ u) $ await ! tt $ learn ! (λ freed. lands_as ! freed refl (tt, tt) $
    sets ! (of_opd ! (unit_lit !)) refl (tt, tt) $ returns_within ! (Wk.post (y (block_ptr b o))) refl (look_at ! 0 refl) $ free_all ! refl $ keep ! (0 ∷ 2 ∷ []) $ ends)))
    (λ no. skips ! $ exec ! 𝓣.C 𝓣.Λ En (after 3 body) (at_ret En (Wk.post (y (block_ptr b o)))) $
    sets ! (addr ! (through ! refl (fld ! refl (stop !)))) refl (tt, tt) $ move ! (3 ∷ []) $ fsplit ! $ move ! (1 ∷ []) $
    rewrite ! 0 Right (sym (at_choice is_first τ n al x false fits (is_false x no) is)) refl $ move ! (1 ∷ 0 ∷ 4 ∷ 2 ∷ []) $ group ! 4 $
    use1 𝓛 (raw (I.pre give')) (Gives-goes X 𝓛 𝓜.mem 𝓡.returns κ q at' heap' (⊑_trans κ κs.1.1.0 C.lives bounds.1.0 lives') b o n al τ fits.0 fits.1 n_fits al_fits) $
    calls_at ! (framed 𝓤 𝓛.H 𝓜 𝓣) I (inner'.deallocate dc') give' (and_then ! (get ! refl) (and_then ! (get ! refl) (and_then ! (get ! refl) (and_then ! (get ! refl) (no_more !))))) (λ u.
    use1 𝓛 (later (given (u ≡ vunit) (‵ (flft κ q)))) (Gives-Gives X 𝓛 𝓜.mem 𝓡.returns κ q at' heap' b o n al τ u) $ await ! tt $ learn ! (λ freed. lands_as ! freed refl (tt, tt) $
    sets ! (of_opd ! (unit_lit !)) refl (tt, tt) $ returns ! (look_at ! 0 refl) $ free_all ! refl $ keep ! (0 ∷ 2 ∷ []) $ ends))))))))))))
