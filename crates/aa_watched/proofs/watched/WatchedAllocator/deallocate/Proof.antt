-- The block is counted as deallocated, and the inner allocator deallocates it. Assumes `Logic`.
use Rattle.aa_watched.proofs.Watching.{◌≡◌, List, [], ◌∷◌, refl, ap, w64, unit, Al, seen, token, Gives, at_gives, Gives-goes, Gives-Gives, proved, inst_fn, Fn, Val, vunit, vint, vptr, ftrue, fsep, flft, fst∗, never, ◌⊑◌, ⊑_trans, fact, tables, size, align, capped, WpFn, alloc_all, pass_all, free_all, look_at, get, through, sets, lands_as, ‵, raw, ◌⊛◌, later, ◌$◌, ◌∵◌, !, qed, move, keep, drop, use0, use1, use2, split, split3, join, fsplit, feq_i, feq_l, await, done, prop, given, learn, suffices, group, regoal, sem, stop, fld, addr, no_more, and_then, of_opd, returns, enter, unit_lit, uint_vals, uint_Tells, owns, Ptr, block_ptr, null_ptr, ptr_val, room_for, in_a_block, rawptr_vals, rawptr_Tells, shr_vals, types_at, nothing, only, heard, calls_at, framed, walk_of, ends_at, inner_of, dropped, gone, trues, spent, ended, Wa, generics, watch_of, watched_by, reaches, calling, calls, Notes}
use Rattle.aa_watched.specs.contracts.watched.WatchedAllocator.deallocate as F
use Rattle.aa_watched.proofs.watched.WatchedAllocator.deallocate.Statement.{statement}
use Rattle.aa_watched.proofs.watched.WatchedAllocator.deallocate.Code as code

pub deallocate_spec : {M : Type 1} → statement M
deallocate_spec 𝓤 𝓛 𝓜 𝓡 wired B W L LW g d gw dw d' dw' inner watch _ _ =
    let Z : Al = record { row = B; laws = L; g = g; d = d; drops = d' } in let Y : Wa = record { row = W; laws = LW; g = gw; d = dw; drops = dw' } in
    let E = F.ended B W g d gw dw d' dw' in let c = F.clauses B W g d gw dw d' dw' 𝓛 𝓜.mem 𝓡.returns in let hs = dropped E.signature.params E.kept in
    let Wk = walk_of 𝓛 E hs c in let 𝓣 = tables 𝓤 𝓛.H 𝓜 𝓡 𝓡.env in let fn : Fn = inst_fn (generics Z Y) code.function in
    proved 𝓛 E hs c 𝓜 𝓡 ((λ κs x f vs ok. gone 𝓛), ((λ κs x f vs ok. gone 𝓛), ((λ κs x f vs ok. gone 𝓛), ((λ κs x f vs ok. gone 𝓛), tt))))
    (F.Key.name (generics Z Y)) fn (code.unfolded 𝓤 𝓛.H 𝓜 𝓡 wired (B, (W, tt)) d dw d' dw')
    (λ κs. (shr_vals, (rawptr_vals, (uint_vals w64, (uint_vals w64, tt))))) (λ κs. ((λ r vs is. is.0), (rawptr_Tells, (uint_Tells w64, (uint_Tells w64, tt))))) (λ κs qs bounds a τ are.
    let κ = κs.0 in let q = qs.0 in let r = a.0 in let n = a.1.1.0 in let al = a.1.1.1.0 in let n_fits = are.1.1.0.1 in let al_fits = are.1.1.1.0.1 in
    let heap : B.Denot = r.now.inner in let at = inner_of Z r.ref_ptr in let eye : W.Denot = r.now.watch in let spot = watch_of Z Y r.ref_ptr in
    let y : Ptr → Wk.Ghost = λ p. ((κs, qs, bounds, (r, (p, (n, (al, tt)))), (shr_vals r, (rawptr_vals p, (uint_vals w64 n, (uint_vals w64 al, tt))))), τ) in
    let Fits : Type 0 = (capped (size τ) ≡ n) × (capped (align τ) ≡ al) in
    let N = Notes Y 𝓛 𝓜.mem 𝓡.returns in let note : N.Ghost = calling Y 𝓛 𝓜.mem 𝓡.returns κ q eye spot n al in
    qed 𝓛 (((‵ (flft κ q) ⊛ ‵ (flft κs.1.0 qs.1.0) ⊛ ‵ (flft κs.1.1.0 qs.1.1.0) ⊛ ‵ ftrue) ⊛ ‵ (owns (types_at E.signature.params κs) a (y a.1.0).0.4))
    ∷ (raw (fact 𝓤 (κs.1.0 ⊑ B.lives)) ⊛ raw (fact 𝓤 (κs.1.1.0 ⊑ W.lives)) ⊛ raw (fact 𝓤 Fits) ⊛ ‵ (fsep (room_for τ a.1.0) (token Z heap τ a.1.0))) ∷ []) ∵
    move ! (1 ∷ []) $ split ! $ heard ! _ (λ lives. split3 ! $ heard ! _ (λ lives'. let lasts = ⊑_trans κ κs.1.1.0 W.lives bounds.1.0 lives' in heard ! Fits (λ fits.
    in_a_block ! a.1.0 (λ p. fsep (room_for τ p) (token Z heap τ p)) (fst∗ 𝓤 (never 𝓤) (sem 𝓛 (token Z heap τ null_ptr))) (λ b o is_block.
    let G = Gives Z 𝓛 𝓜.mem 𝓡.returns in let give : G.Ghost = at_gives Z 𝓛 𝓜.mem 𝓡.returns κ q at heap b o n al τ in
    regoal ! (λ (p : Ptr). prop (WpFn 𝓤 𝓛.H 𝓣.C 𝓣.Λ fn (vptr r.ref_ptr.0 r.ref_ptr.1 ∷ ptr_val p ∷ vint w64 n ∷ vint w64 al ∷ []) (Wk.post (y p)))) is_block refl $
    move ! (1 ∷ []) $ split ! $ split ! $ move ! (2 ∷ []) $ fsplit ! $
    use1 𝓛 (‵ (seen Z κ at heap) ⊛ ‵ (watched_by Y κ eye spot)) (reaches Z Y 𝓛 κ r) $ split ! $ keep ! (1 ∷ 3 ∷ 0 ∷ 5 ∷ 4 ∷ []) $
    -- [the `&` to the watch; its token; the `&` to the inner allocator; the block; the other token]
    enter ! _ _ _ _ _ $ alloc_all ! (λ l. pass_all ! refl ((tt, tt), ((tt, tt), ((tt, record { fits = n_fits }), ((tt, record { fits = al_fits }), tt)))) $
    sets ! (addr ! (through ! refl (fld ! refl (stop !)))) refl (tt, tt) $
    use2 𝓛 (raw (N.pre note)) (calls Y 𝓛 𝓜.mem 𝓡.returns κ q eye spot n al lasts n_fits al_fits) $
    calls_at ! (framed 𝓤 𝓛.H 𝓜 𝓣) N (watch.on_deallocate dw') note (and_then ! (get ! refl) (and_then ! (get ! refl) (and_then ! (get ! refl) (no_more !)))) (λ v.
    ended 𝓛 κ q 3 unit v (λ _. ftrue) _ ! tt (λ _. feq_l ! (λ counted. drop ! $ lands_as ! (ap only counted) refl (tt, tt) $
    -- [the token; the `&` to the inner allocator; the block; the other token]
    sets ! (addr ! (through ! refl (fld ! refl (stop !)))) refl (tt, tt) $
    move ! (2 ∷ []) $ fsplit ! $ move ! (0 ∷ 1 ∷ 3 ∷ 2 ∷ []) $ group ! 4 $
    use1 𝓛 (raw (G.pre give)) (Gives-goes Z 𝓛 𝓜.mem 𝓡.returns κ q at heap (⊑_trans κ κs.1.0 B.lives bounds.0 lives) b o n al τ fits.0 fits.1 n_fits al_fits) $
    calls_at ! (framed 𝓤 𝓛.H 𝓜 𝓣) G (inner.deallocate d') give (and_then ! (get ! refl) (and_then ! (get ! refl) (and_then ! (get ! refl) (and_then ! (get ! refl) (no_more !))))) (λ u.
    use1 𝓛 (later (given (u ≡ vunit) (‵ (flft κ q)))) (Gives-Gives Z 𝓛 𝓜.mem 𝓡.returns κ q at heap b o n al τ u) $ await ! tt $ learn ! (λ freed. lands_as ! freed refl (tt, tt) $
    sets ! (of_opd ! (unit_lit !)) refl (tt, tt) $ returns ! (look_at ! 0 refl) $ free_all ! refl $
    suffices ! _ (ends_at 𝓛 E hs c (y (block_ptr b o)) vunit tt (tt, (tt, (tt, (tt, tt)))) (tt, (tt, (tt, (tt, tt))))) $
    join ! $ nothing ! $ feq_i ! (List Val) (vunit ∷ []) (vunit ∷ []) refl $ use0 𝓛 (‵ (trues 𝓛 4)) (spent 𝓛 4) $ move ! (3 ∷ 0 ∷ 1 ∷ []) $ group ! 3 $ done !)))))))))))
