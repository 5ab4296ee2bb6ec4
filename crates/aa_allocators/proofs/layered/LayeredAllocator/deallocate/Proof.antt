-- The inner allocator deallocates the whole block. Assumes `Logic`.
use Rattle.aa_allocators.proofs.Layering.{◌≡◌, ℕ, List, [], ◌∷◌, refl, w64, owned_block, Al, seen, token, Gives, at_gives, Gives-goes, Gives-Gives, proved, inst_fn, Fn, Val, vunit, vint, vptr, ftrue, flft, froom, fst∗, never, apply∗, ◌⊑◌, ⊑_trans, fact, tables, size, align, capped, WpFn, alloc_all, pass_all, free_all, look_at, get, through, sets, lands_as, ‵, raw, ◌⊛◌, later, ◌$◌, ◌∵◌, !, qed, move, keep, use0, use1, use2, split, split3, join, fsplit, feq_i, await, done, prop, given, learn, suffices, group, regoal, fpick, sem, stop, fld, addr, no_more, and_then, of_opd, returns, enter, unit_lit, uint_vals, uint_Tells, owns, Ptr, block_ptr, null_ptr, ptr_val, in_a_block, rawptr_vals, rawptr_Tells, shr_vals, types_at, nothing, heard, calls_at, framed, walk_of, ends_at, inner_of, dropped, gone, trues, spent, La, layer_at, generics, layer_of, reaches, Sizes, Aligns, at_call, calls, measured, is_alignment, IsAlignment, layered_right, padded, found, shr_dup, ◌≤◌}
use Rattle.aa_allocators.proofs.layered.requested_size.Met.{met as sizes_met}
use Rattle.aa_allocators.proofs.layered.requested_align.Met.{met as aligns_met}
use Rattle.aa_allocators.specs.contracts.layered.LayeredAllocator.deallocate as F
use Rattle.aa_allocators.proofs.layered.LayeredAllocator.deallocate.Statement.{statement}
use Rattle.aa_allocators.proofs.layered.LayeredAllocator.deallocate.Code as code

pub deallocate_spec : {M : Type 1} → statement M
deallocate_spec 𝓤 𝓛 𝓜 𝓡 wired B L LB LL g d gl dl d' dl' inner layer drops drops' =
    let Z : Al = record { row = B; laws = LB; g = g; d = d; drops = d' } in let Y : La = record { row = L; laws = LL; g = gl; d = dl; drops = dl' } in
    let E = F.ended B L g d gl dl d' dl' in let c = F.clauses B L g d gl dl d' dl' 𝓛 𝓜.mem 𝓡.returns in let hs = dropped E.signature.params E.kept in
    let Wk = walk_of 𝓛 E hs c in let 𝓣 = tables 𝓤 𝓛.H 𝓜 𝓡 𝓡.env in let fn : Fn = inst_fn (generics Z Y) code.function in
    proved 𝓛 E hs c 𝓜 𝓡 ((λ κs x f vs ok. gone 𝓛), ((λ κs x f vs ok. gone 𝓛), ((λ κs x f vs ok. gone 𝓛), ((λ κs x f vs ok. gone 𝓛), tt))))
    (F.Key.name (generics Z Y)) fn (code.unfolded 𝓤 𝓛.H 𝓜 𝓡 wired (B, (L, tt)) d dl d' dl')
    (λ κs. (shr_vals, (rawptr_vals, (uint_vals w64, (uint_vals w64, tt))))) (λ κs. ((λ r vs is. is.0), (rawptr_Tells, (uint_Tells w64, (uint_Tells w64, tt))))) (λ κs qs bounds a τ are.
    let κ = κs.0 in let q = qs.0 in let r = a.0 in let n = a.1.1.0 in let al = a.1.1.1.0 in let n_fits = are.1.1.0.1 in let al_fits = are.1.1.1.0.1 in
    let heap : B.Denot = r.now.inner in let at = inner_of Z r.ref_ptr in let plan : L.Denot = r.now.layer in let spot = layer_of Z Y r.ref_ptr in
    let y : Ptr → Wk.Ghost = λ p. ((κs, qs, bounds, (r, (p, (n, (al, tt)))), (shr_vals r, (rawptr_vals p, (uint_vals w64 n, (uint_vals w64 al, tt))))), τ) in
    let Fits : Type 0 = (capped (size τ) ≡ n) × (capped (align τ) ≡ al) in
    let right = layered_right (gl.size_for plan) (gl.align_for plan) (token Z heap) in
    let S = Sizes Y 𝓛 𝓜.mem 𝓡.returns in let A = Aligns Y 𝓛 𝓜.mem 𝓡.returns in let asks : S.Ghost = at_call Y 𝓛 𝓜.mem 𝓡.returns κ q plan spot n al in
    let Sized = λ (m : ℕ). (m ≡ padded (gl.size_for plan n al) (gl.align_for plan n al)) × (n ≤ m) in
    let Lined = λ (k : ℕ). (k ≡ gl.align_for plan n al) × (al ≤ k) × IsAlignment k in
    qed 𝓛 (((‵ (flft κ q) ⊛ ‵ (flft κs.1.0 qs.1.0) ⊛ ‵ (flft κs.1.1.0 qs.1.1.0) ⊛ ‵ ftrue) ⊛ ‵ (owns (types_at E.signature.params κs) a (y a.1.0).0.4))
    ∷ (raw (fact 𝓤 (κs.1.0 ⊑ B.lives)) ⊛ raw (fact 𝓤 (κs.1.1.0 ⊑ L.lives)) ⊛ raw (fact 𝓤 Fits) ⊛ ‵ (owned_block right τ a.1.0)) ∷ []) ∵
    move ! (1 ∷ []) $ split ! $ heard ! _ (λ lives. split3 ! $ heard ! _ (λ lives'. let lasts' = ⊑_trans κ κs.1.1.0 L.lives bounds.1.0 lives' in heard ! Fits (λ fits. let aligned = is_alignment τ al fits.1 in
    in_a_block ! a.1.0 (λ p. owned_block right τ p) (fst∗ 𝓤 (never 𝓤) (sem 𝓛 (right τ null_ptr))) (λ b o is_block.
    regoal ! (λ (p : Ptr). prop (WpFn 𝓤 𝓛.H 𝓣.C 𝓣.Λ fn (vptr r.ref_ptr.0 r.ref_ptr.1 ∷ ptr_val p ∷ vint w64 n ∷ vint w64 al ∷ []) (Wk.post (y p)))) is_block refl $
    move ! (1 ∷ []) $ split ! $ split ! $ move ! (2 ∷ []) $ fsplit ! $
    use1 𝓛 (‵ (seen Z κ at heap) ⊛ ‵ (layer_at Y κ plan spot)) (reaches Z Y 𝓛 κ r) $ split ! $ keep ! (1 ∷ 3 ∷ 0 ∷ 5 ∷ 4 ∷ []) $
    -- [the `&` to the layer; its token; the `&` to the inner allocator; the block; the other token]
    enter ! _ _ _ _ _ $ alloc_all ! (λ l. pass_all ! refl ((tt, tt), ((tt, tt), ((tt, record { fits = n_fits }), ((tt, record { fits = al_fits }), tt)))) $
    shr_dup ! L LL.shr_laws plan spot.0 spot.1 κ $ move ! (0 ∷ 2 ∷ []) $
    sets ! (addr ! (through ! refl (fld ! refl (stop !)))) refl (tt, tt) $
    use2 𝓛 (raw (S.pre asks)) (calls Y 𝓛 𝓜.mem 𝓡.returns κ q plan spot n al lasts' aligned n_fits al_fits) $
    calls_at ! (framed 𝓤 𝓛.H 𝓜 𝓣) S (sizes_met 𝓤 𝓛 𝓜 𝓡 (code.calls-aa_allocators::layered::requested_size 𝓡.env wired) L LL gl dl dl' layer drops') asks
    (and_then ! (get ! refl) (and_then ! (get ! refl) (and_then ! (get ! refl) (no_more !)))) (λ v.
    measured 𝓛 κ q v Sized _ ! tt (λ m e m_fits sized. lands_as ! e refl (tt, record { fits = m_fits }) $
    -- [the token; the `&` to the layer; the `&` to the inner allocator; the block; the other token]
    sets ! (addr ! (through ! refl (fld ! refl (stop !)))) refl (tt, tt) $ move ! (1 ∷ 0 ∷ []) $
    use2 𝓛 (raw (A.pre asks)) (calls Y 𝓛 𝓜.mem 𝓡.returns κ q plan spot n al lasts' aligned n_fits al_fits) $
    calls_at ! (framed 𝓤 𝓛.H 𝓜 𝓣) A (aligns_met 𝓤 𝓛 𝓜 𝓡 (code.calls-aa_allocators::layered::requested_align 𝓡.env wired) L LL gl dl dl' layer drops') asks
    (and_then ! (get ! refl) (and_then ! (get ! refl) (and_then ! (get ! refl) (no_more !)))) (λ v'.
    measured 𝓛 κ q v' Lined _ ! tt (λ k e' k_fits lined. lands_as ! e' refl (tt, record { fits = k_fits }) $
    -- [the token; the `&` to the inner allocator; the block; the other token]
    move ! (2 ∷ []) $ fsplit ! $ move ! (1 ∷ []) $ fpick ! (λ σ. fpick ! (λ asked_for. fsplit ! $ move ! (2 ∷ 0 ∷ []) $
    use2 𝓛 (‵ (froom σ b o)) (apply∗ 𝓤 (𝓛.H.room τ b o) (𝓛.H.room σ b o)) $
    -- [its room; its right; the token; the `&` to the inner allocator; the other token]
    let laid = found (gl.size_for plan) (gl.align_for plan) τ σ n al m k fits asked_for sized.0 lined.0 in
    sets ! (addr ! (through ! refl (fld ! refl (stop !)))) refl (tt, tt) $ move ! (0 ∷ 1 ∷ 3 ∷ 2 ∷ []) $ group ! 4 $
    let G = Gives Z 𝓛 𝓜.mem 𝓡.returns in let give : G.Ghost = at_gives Z 𝓛 𝓜.mem 𝓡.returns κ q at heap b o m k σ in
    use1 𝓛 (raw (G.pre give)) (Gives-goes Z 𝓛 𝓜.mem 𝓡.returns κ q at heap (⊑_trans κ κs.1.0 B.lives bounds.0 lives) b o m k σ laid.0 laid.1 m_fits k_fits) $
    calls_at ! (framed 𝓤 𝓛.H 𝓜 𝓣) G (inner.deallocate d') give (and_then ! (get ! refl) (and_then ! (get ! refl) (and_then ! (get ! refl) (and_then ! (get ! refl) (no_more !))))) (λ u.
    use1 𝓛 (later (given (u ≡ vunit) (‵ (flft κ q)))) (Gives-Gives Z 𝓛 𝓜.mem 𝓡.returns κ q at heap b o m k σ u) $ await ! tt $ learn ! (λ freed. lands_as ! freed refl (tt, tt) $
    sets ! (of_opd ! (unit_lit !)) refl (tt, tt) $ returns ! (look_at ! 0 refl) $ free_all ! refl $
    suffices ! _ (ends_at 𝓛 E hs c (y (block_ptr b o)) vunit tt (tt, (tt, (tt, (tt, tt)))) (tt, (tt, (tt, (tt, tt))))) $
    join ! $ nothing ! $ feq_i ! (List Val) (vunit ∷ []) (vunit ∷ []) refl $ use0 𝓛 (‵ (trues 𝓛 4)) (spent 𝓛 4) $ move ! (3 ∷ 0 ∷ 1 ∷ []) $ group ! 3 $ done !))))))))))))))
