-- The block that the layer chooses is requested, and its first bytes are returned. Assumes `Logic`.
use Rattle.aa_allocators.proofs.Layering.{◌≡◌, ℕ, ◌<◌, ◌^◌, [], ◌∷◌, refl, w64, true, false, Ok, Err, arith, subst, sym, ◌-◌, block_if_ok, Al, seen, token, Answer, answer_val, Answer-typed, Answer-Ok, Answer-err, Takes, at_takes, Answered, Takes-goes, Takes-gives, answers, after, proved, inst_fn, Fn, Body, Ty, Val, ftrue, fsep, flft, fex, froom, fwand, ent, emp, ◌⊑◌, ⊑_trans, fact, tables, size, align, capped, Env, alloc_all, pass_all, free_all, look_at, get, through, sets, lands_as, env, ‵, raw, ◌⊛◌, later, ◌$◌, ◌∵◌, !, qed, move, keep, use0, use1, use2, split, split3, join, fsplit, fjoin, await, done, prop, at_ret, Sq, suffices, group, fpack, sem, agg, stop, fld, addr, lit, no_more, and_then, first, branches, skips, exec, returns, returns_within, enter, uint_vals, uint_Tells, owns, block_ptr, shr_vals, types_at, nothing, heard, calls_at, framed, walk_of, ends_at, inner_of, dropped, gone, trues, spent, La, layer_at, generics, layer_of, reaches, Sizes, Aligns, at_call, calls, measured, is_alignment, wider, is_wider, in_units, few, lends_part, IsAlignment, IsRequestedFor, layered_right, padded, asked, shr_dup, bin, neg_lit, ◌≤◌, nltb→le}
use Rattle.aa_allocators.proofs.Shelving.{exact, align_exact}
use Rattle.aa_allocators.proofs.layered.requested_size.Met.{met as sizes_met}
use Rattle.aa_allocators.proofs.layered.requested_align.Met.{met as aligns_met}
use Rattle.aa_allocators.specs.contracts.layered.LayeredAllocator.allocate as F
use Rattle.aa_allocators.proofs.layered.LayeredAllocator.allocate.Statement.{statement}
use Rattle.aa_allocators.proofs.layered.LayeredAllocator.allocate.Code as code

pub allocate_spec : {M : Type 1} → statement M
allocate_spec 𝓤 𝓛 𝓜 𝓡 wired B L LB LL g d gl dl d' dl' inner layer drops drops' =
    let Z : Al = record { row = B; laws = LB; g = g; d = d; drops = d' } in let Y : La = record { row = L; laws = LL; g = gl; d = dl; drops = dl' } in
    let E = F.ended B L g d gl dl d' dl' in let c = F.clauses B L g d gl dl d' dl' 𝓛 𝓜.mem 𝓡.returns in let hs = dropped E.signature.params E.kept in
    let Wk = walk_of 𝓛 E hs c in let 𝓣 = tables 𝓤 𝓛.H 𝓜 𝓡 𝓡.env in let fn : Fn = inst_fn (generics Z Y) code.function in
    proved 𝓛 E hs c 𝓜 𝓡 ((λ κs x f vs ok. gone 𝓛), ((λ κs x f vs ok. gone 𝓛), ((λ κs x f vs ok. gone 𝓛), tt))) (F.Key.name (generics Z Y)) fn (code.unfolded 𝓤 𝓛.H 𝓜 𝓡 wired (B, (L, tt)) d dl d' dl')
    (λ κs. (shr_vals, (uint_vals w64, (uint_vals w64, tt)))) (λ κs. ((λ r vs is. is.0), (uint_Tells w64, (uint_Tells w64, tt)))) (λ κs qs bounds a τ are.
    let κ = κs.0 in let q = qs.0 in let r = a.0 in let n = a.1.0 in let al = a.1.1.0 in let n_fits = are.1.0.1 in let al_fits = are.1.1.0.1 in
    let heap : B.Denot = r.now.inner in let at = inner_of Z r.ref_ptr in let plan : L.Denot = r.now.layer in let spot = layer_of Z Y r.ref_ptr in
    let y : Wk.Ghost = ((κs, qs, bounds, a, (shr_vals r, (uint_vals w64 n, (uint_vals w64 al, tt)))), τ) in
    let Fits : Type 0 = (capped (size τ) ≡ n) × (capped (align τ) ≡ al) in
    let right = layered_right (gl.size_for plan) (gl.align_for plan) (token Z heap) in
    let S = Sizes Y 𝓛 𝓜.mem 𝓡.returns in let A = Aligns Y 𝓛 𝓜.mem 𝓡.returns in let asks : S.Ghost = at_call Y 𝓛 𝓜.mem 𝓡.returns κ q plan spot n al in
    let Sized = λ (m : ℕ). (m ≡ padded (gl.size_for plan n al) (gl.align_for plan n al)) × (n ≤ m) in
    let Lined = λ (k : ℕ). (k ≡ gl.align_for plan n al) × (al ≤ k) × IsAlignment k in
    let leaves : (x : Answer.Denot) (v : Val) → ent 𝓤 (emp 𝓤) (sem 𝓛 (Answer.own_val x (v ∷ [])))
    → Sq 𝓛 (‵ (block_if_ok right τ x) ∷ ‵ (flft κ q) ∷ (‵ (flft κs.1.0 qs.1.0) ⊛ ‵ (flft κs.1.1.0 qs.1.1.0) ⊛ ‵ ftrue) ∷ []) (prop (Wk.post y v)) = λ x v made.
    suffices ! _ (ends_at 𝓛 E hs c y v x (tt, (tt, (tt, tt))) (tt, (tt, (tt, tt)))) $
    move ! (1 ∷ 2 ∷ []) $ join ! $ use0 𝓛 (‵ (Answer.own_val x (v ∷ []))) made $ use0 𝓛 (‵ (trues 𝓛 3)) (spent 𝓛 3) $ move ! (2 ∷ 0 ∷ 1 ∷ []) $ group ! 3 $ done ! in
    qed 𝓛 (((‵ (flft κ q) ⊛ ‵ (flft κs.1.0 qs.1.0) ⊛ ‵ (flft κs.1.1.0 qs.1.1.0) ⊛ ‵ ftrue) ⊛ ‵ (owns (types_at E.signature.params κs) a y.0.4))
    ∷ (raw (fact 𝓤 (κs.1.0 ⊑ B.lives)) ⊛ raw (fact 𝓤 (κs.1.1.0 ⊑ L.lives)) ⊛ raw (fact 𝓤 Fits)) ∷ []) ∵
    move ! (1 ∷ []) $ split3 ! $ heard ! _ (λ lives. heard ! _ (λ lives'. let lasts' = ⊑_trans κ κs.1.1.0 L.lives bounds.1.0 lives' in heard ! Fits (λ fits. let aligned = is_alignment τ al fits.1 in
    split ! $ split ! $ move ! (2 ∷ []) $ fsplit ! $
    use1 𝓛 (‵ (seen Z κ at heap) ⊛ ‵ (layer_at Y κ plan spot)) (reaches Z Y 𝓛 κ r) $ split ! $ keep ! (1 ∷ 3 ∷ 0 ∷ 4 ∷ []) $
    -- [the `&` to the layer; its token; the `&` to the inner allocator; the other token]
    enter ! _ _ _ _ _ $ alloc_all ! (λ l. pass_all ! refl ((tt, tt), ((tt, record { fits = n_fits }), ((tt, record { fits = al_fits }), tt))) $
    let En : Env 𝓤 𝓛.H = env fn.locals l in let body : Body = fn.body in
    shr_dup ! L LL.shr_laws plan spot.0 spot.1 κ $ move ! (0 ∷ 2 ∷ []) $
    sets ! (addr ! (through ! refl (fld ! refl (stop !)))) refl (tt, tt) $
    use2 𝓛 (raw (S.pre asks)) (calls Y 𝓛 𝓜.mem 𝓡.returns κ q plan spot n al lasts' aligned n_fits al_fits) $
    calls_at ! (framed 𝓤 𝓛.H 𝓜 𝓣) S (sizes_met 𝓤 𝓛 𝓜 𝓡 (code.calls-aa_allocators::layered::requested_size 𝓡.env wired) L LL gl dl dl' layer drops') asks
    (and_then ! (get ! refl) (and_then ! (get ! refl) (and_then ! (get ! refl) (no_more !)))) (λ v.
    measured 𝓛 κ q v Sized _ ! tt (λ m e m_fits sized. lands_as ! e refl (tt, record { fits = m_fits }) $
    -- [the token; the `&` to the layer; the `&` to the inner allocator; the other token]
    sets ! (addr ! (through ! refl (fld ! refl (stop !)))) refl (tt, tt) $ move ! (1 ∷ 0 ∷ []) $
    use2 𝓛 (raw (A.pre asks)) (calls Y 𝓛 𝓜.mem 𝓡.returns κ q plan spot n al lasts' aligned n_fits al_fits) $
    calls_at ! (framed 𝓤 𝓛.H 𝓜 𝓣) A (aligns_met 𝓤 𝓛 𝓜 𝓡 (code.calls-aa_allocators::layered::requested_align 𝓡.env wired) L LL gl dl dl' layer drops') asks
    (and_then ! (get ! refl) (and_then ! (get ! refl) (and_then ! (get ! refl) (no_more !)))) (λ v'.
    measured 𝓛 κ q v' Lined _ ! tt (λ k e' k_fits lined. lands_as ! e' refl (tt, record { fits = k_fits }) $
    -- [the token; the `&` to the inner allocator; the other token]
    let low : 2 ^ 64 - 1 - m < 2 ^ 64 = omega arith in
    sets ! (bin ! (neg_lit ! tt) (get ! refl) (omega (arith, m_fits))) refl (tt, record { fits = low }) $ sets ! (bin ! (get ! refl) (get ! refl) tt) refl (tt, tt) $
    first ! $ branches ! (get ! refl)
    (λ _. sets ! (agg ! (no_more !)) refl (tt, tt) $ sets ! (agg ! (and_then ! (lit ! tt) (and_then ! (get ! refl) (no_more !)))) refl (Answer-typed false 0 0) $
    returns_within ! (Wk.post y) refl (look_at ! 0 refl) $ free_all ! refl $ keep ! (0 ∷ 2 ∷ []) $ nothing ! $ leaves (Err (record {})) (answer_val false 0 0) (Answer-err 𝓛))
    (λ within. let small = few m (nltb→le (2 ^ 64 - 1 - m) m within) in let al_k = lined.2 in
    let units = in_units (gl.size_for plan n al) k m al_k (subst (λ (x : ℕ). m ≡ padded (gl.size_for plan n al) x) (sym lined.0) sized.0) small in
    let σ : Ty = wider m k al_k in let laid = is_wider m k al_k units small in
    skips ! $ exec ! 𝓣.C 𝓣.Λ En (after 7 body) (at_ret En (Wk.post y)) $
    let T = Takes Z 𝓛 𝓜.mem 𝓡.returns in let taken : T.Ghost = at_takes Z 𝓛 𝓜.mem 𝓡.returns κ q at heap m k σ in
    sets ! (addr ! (through ! refl (fld ! refl (stop !)))) refl (tt, tt) $ move ! (1 ∷ 0 ∷ []) $
    use2 𝓛 (raw (T.pre taken)) (Takes-goes Z 𝓛 𝓜.mem 𝓡.returns κ q at heap (⊑_trans κ κs.1.0 B.lives bounds.0 lives) m k σ laid.0 laid.1 m_fits k_fits) $
    calls_at ! (framed 𝓤 𝓛.H 𝓜 𝓣) T (inner.allocate d') taken (and_then ! (get ! refl) (and_then ! (get ! refl) (and_then ! (get ! refl) (no_more !)))) (λ w.
    use1 𝓛 (later (raw (Answered Z 𝓛 𝓜.mem 𝓡.returns heap σ w) ⊛ ‵ (flft κ q))) (Takes-gives Z 𝓛 𝓜.mem 𝓡.returns κ q at heap m k σ w) $ await ! tt $ split ! $
    -- [the result; the token; the other token]
    answers Z ! 𝓜.mem 𝓡.returns heap σ w
    (λ b o granted. lands_as ! granted refl (Answer-typed true b o) $ returns ! (look_at ! 0 refl) $ free_all ! refl $
    let Asked = IsRequestedFor (gl.size_for plan) (gl.align_for plan) in
    let same = exact (size τ) n fits.0 (omega (arith, sized.1, small)) in
    use1 𝓛 (‵ (froom τ b o) ⊛ ‵ (fwand (froom τ b o) (froom σ b o))) (lends_part 𝓛 τ m k al_k units (subst (λ (x : ℕ). x ≤ m) (sym same) sized.1) (subst (λ (x : ℕ). x ≤ k) (sym (align_exact τ al fits.1)) lined.1) b o) $ split ! $
    move ! (1 ∷ 2 ∷ []) $ fjoin ! $
    fpack ! (Asked τ σ) (λ _. fsep (fwand (froom τ b o) (froom σ b o)) (token Z heap σ (block_ptr b o)))
    (asked (gl.size_for plan) (gl.align_for plan) τ σ n al m k fits laid sized.0 lined.0) $
    fpack ! Ty (λ ρ. fex (Asked τ ρ) (λ _. fsep (fwand (froom τ b o) (froom ρ b o)) (token Z heap ρ (block_ptr b o)))) σ $ move ! (1 ∷ 0 ∷ []) $ fjoin ! $
    leaves (Ok (block_ptr b o)) (answer_val true b o) (Answer-Ok 𝓛 b o))
    (λ refused. lands_as ! refused refl (Answer-typed false 0 0) $ returns ! (look_at ! 0 refl) $ free_all ! refl $
    nothing ! $ leaves (Err (record {})) (answer_val false 0 0) (Answer-err 𝓛)))))))))))))
