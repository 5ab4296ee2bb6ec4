-- A larger block is requested, and the word is written after it. Assumes `Logic`.
use Rattle.aa_allocators.proofs.Suffixing.{canary, reaches_guarded, ◌≡◌, ℕ, ◌+◌, ◌<◌, ◌^◌, [], ◌∷◌, refl, w64, true, false, Ok, Err, T, arith, lit<, subst, sym, ◌-◌, block_if_ok, Al, seen, token, Answer, answer_val, Answer-typed, Answer-Ok, Answer-err, Takes, at_takes, Answered, Takes-goes, Takes-gives, answers, after, front, arm_body, proved, inst_fn, Fn, Body, Ty, ty_int, ty_unit, Val, vint, WT, has_ty, ftrue, flft, froom, fwand, ent, emp, ◌⊑◌, ⊑_trans, fact, tables, size, align, capped, Env, Wp, after_seq, at_return, alloc_all, pass_all, free_all, look_at, get, get_in, get_tag, through, sets, sets_last, lands_as, env, lands_last, ‵, raw, ◌⊛◌, later, ◌$◌, ◌∵◌, !, qed, move, keep, use0, use1, use2, split, split3, join, fsplit, fjoin, await, done, prop, at_ret, any_q, Sq, Post, suffices, group, sem, vrt, in_variant, agg, whole, stop, fld, addr, lit, no_more, and_then, of_opd, first, branches, skips, switches_on, exec, returns, returns_within, enter, blocks, uint_vals, uint_Tells, owns, block_ptr, shr_vals, types_at, nothing, heard, calls_at, calls_at_last, framed, walk_of, ends_at, inner_of, dropped, gone, trues, spent, bin, neg_lit, full_share, fat, Sizes, sizes, sizes_go, Aligns, aligns, aligns_go, Writes, writes, writes_go, measured_bare, wrote, placed, parts, packs, nltb→le, ◌≤◌, IsAlignment, padded, IsSuffixed, suffixed_right, word_align, word_at, is_alignment, wider, is_wider, in_units, few, asked, exact, align_exact}
use Rattle.aa_allocators.proofs.suffix.suffixed_size.Met.{met as sizes_met}
use Rattle.aa_allocators.proofs.suffix.suffixed_align.Met.{met as aligns_met}
use Rattle.aa_allocators.proofs.suffix.write_word.Met.{met as write_met}
use Rattle.aa_allocators.proofs.Shelving.{generics}
use Rattle.aa_allocators.specs.contracts.guarded.GuardedAllocator.allocate as F
use Rattle.aa_allocators.proofs.guarded.GuardedAllocator.allocate.Statement.{statement}
use Rattle.aa_allocators.proofs.guarded.GuardedAllocator.allocate.Code as code
use types.Kit.{use3}

pub allocate_spec : {M : Type 1} → statement M
allocate_spec 𝓤 𝓛 𝓜 𝓡 wired B L g d d' inner drops =
    let Z : Al = record { row = B; laws = L; g = g; d = d; drops = d' } in
    let E = F.ended B g d d' in let c = F.clauses B g d d' 𝓛 𝓜.mem 𝓡.returns in let hs = dropped E.signature.params E.kept in
    let Wk = walk_of 𝓛 E hs c in let 𝓣 = tables 𝓤 𝓛.H 𝓜 𝓡 𝓡.env in let fn : Fn = inst_fn (generics B d d') code.function in
    proved 𝓛 E hs c 𝓜 𝓡 ((λ κs x f vs ok. gone 𝓛), ((λ κs x f vs ok. gone 𝓛), ((λ κs x f vs ok. gone 𝓛), tt))) (F.Key.name (generics B d d')) fn (code.unfolded 𝓤 𝓛.H 𝓜 𝓡 wired (B, tt) d d')
    (λ κs. (shr_vals, (uint_vals w64, (uint_vals w64, tt)))) (λ κs. ((λ r vs is. is.0), (uint_Tells w64, (uint_Tells w64, tt)))) (λ κs qs bounds a τ are.
    let κ = κs.0 in let q = qs.0 in let r = a.0 in let n = a.1.0 in let al = a.1.1.0 in let n_fits = are.1.0.1 in let al_fits = are.1.1.0.1 in
    let heap : B.Denot = r.now.inner in let at = inner_of Z r.ref_ptr in
    let Fits : Type 0 = (capped (size τ) ≡ n) × (capped (align τ) ≡ al) in
    let t = token Z heap in let right = suffixed_right canary t in
    let S = Sizes 𝓛 𝓜.mem 𝓡.returns in let A = Aligns 𝓛 𝓜.mem 𝓡.returns in
    let Sized = λ (m : ℕ). (m ≡ padded (n + word_align al) (word_align al)) × (n ≤ m) in
    let Lined = λ (k : ℕ). (k ≡ word_align al) × (al ≤ k) × IsAlignment k in
    let y : Wk.Ghost = ((κs, qs, bounds, a, (shr_vals r, (uint_vals w64 n, (uint_vals w64 al, tt)))), τ) in
    let leaves : (x : Answer.Denot) (v : Val) → ent 𝓤 (emp 𝓤) (sem 𝓛 (Answer.own_val x (v ∷ [])))
    → Sq 𝓛 (‵ (block_if_ok right τ x) ∷ ‵ (flft κ q) ∷ (‵ (flft κs.1.0 qs.1.0) ⊛ ‵ ftrue) ∷ []) (prop (Wk.post y v)) = λ x v made.
    suffices ! _ (ends_at 𝓛 E hs c y v x (tt, (tt, (tt, tt))) (tt, (tt, (tt, tt)))) $
    move ! (1 ∷ 2 ∷ []) $ join ! $ use0 𝓛 (‵ (Answer.own_val x (v ∷ []))) made $ use0 𝓛 (‵ (trues 𝓛 3)) (spent 𝓛 3) $ move ! (2 ∷ 0 ∷ 1 ∷ []) $ group ! 3 $ done ! in
    qed 𝓛 (((‵ (flft κ q) ⊛ ‵ (flft κs.1.0 qs.1.0) ⊛ ‵ ftrue) ⊛ ‵ (owns (types_at E.signature.params κs) a y.0.4))
    ∷ (raw (fact 𝓤 (κs.1.0 ⊑ B.lives)) ⊛ raw (fact 𝓤 Fits)) ∷ []) ∵
    move ! (1 ∷ []) $ split ! $ heard ! _ (λ lives. heard ! Fits (λ fits. let aligned = is_alignment τ al fits.1 in
    split ! $ split ! $ move ! (2 ∷ []) $ fsplit ! $
    use1 𝓛 (‵ (seen Z κ at heap)) (reaches_guarded Z 𝓛 κ r) $ keep ! (0 ∷ 2 ∷ 3 ∷ []) $
    -- [the `&` to the inner allocator; its token; the other token]
    enter ! _ _ _ _ _ $ alloc_all ! (λ l. pass_all ! refl ((tt, tt), ((tt, record { fits = n_fits }), ((tt, record { fits = al_fits }), tt))) $
    let En : Env 𝓤 𝓛.H = env fn.locals l in let body : Body = fn.body in
    let Then : ℕ → Post 𝓤 𝓛.H = λ i. any_q (after_seq 𝓤 𝓛.H (Wp 𝓤 𝓛.H 𝓣.C 𝓣.Λ En (after i body) (at_return 𝓤 𝓛.H En (Wk.post y))) (at_return 𝓤 𝓛.H En (Wk.post y))) in
    use0 𝓛 (raw (S.pre (sizes 𝓛 𝓜.mem 𝓡.returns n al))) (sizes_go 𝓛 𝓜.mem 𝓡.returns n al aligned n_fits al_fits) $
    calls_at ! (framed 𝓤 𝓛.H 𝓜 𝓣) S (sizes_met 𝓤 𝓛 𝓜 𝓡 (code.calls-aa_allocators::suffix::suffixed_size 𝓡.env wired)) (sizes 𝓛 𝓜.mem 𝓡.returns n al) (and_then ! (get ! refl) (and_then ! (get ! refl) (no_more !))) (λ v.
    measured_bare 𝓛 v 2 Sized _ ! tt (λ m e m_fits sized. lands_as ! e refl (tt, record { fits = m_fits }) $
    use0 𝓛 (raw (A.pre (aligns 𝓛 𝓜.mem 𝓡.returns al))) (aligns_go 𝓛 𝓜.mem 𝓡.returns al aligned al_fits) $
    calls_at ! (framed 𝓤 𝓛.H 𝓜 𝓣) A (aligns_met 𝓤 𝓛 𝓜 𝓡 (code.calls-aa_allocators::suffix::suffixed_align 𝓡.env wired)) (aligns 𝓛 𝓜.mem 𝓡.returns al) (and_then ! (get ! refl) (no_more !)) (λ v'.
    measured_bare 𝓛 v' 1 Lined _ ! tt (λ k e' k_fits lined. lands_as ! e' refl (tt, record { fits = k_fits }) $
    let low : 2 ^ 64 - 1 - m < 2 ^ 64 = omega arith in
    sets ! (bin ! (neg_lit ! tt) (get ! refl) (omega (arith, m_fits))) refl (tt, record { fits = low }) $ sets ! (bin ! (get ! refl) (get ! refl) tt) refl (tt, tt) $
    first ! $ branches ! (get ! refl)
    (λ _. sets ! (agg ! (no_more !)) refl (tt, tt) $ sets ! (agg ! (and_then ! (lit ! tt) (and_then ! (get ! refl) (no_more !)))) refl (Answer-typed false 0 0) $
    returns_within ! (Wk.post y) refl (look_at ! 0 refl) $ free_all ! refl $ keep ! (1 ∷ 2 ∷ []) $ nothing ! $ leaves (Err (record {})) (answer_val false 0 0) (Answer-err 𝓛))
    (λ within. let small = few m (nltb→le (2 ^ 64 - 1 - m) m within) in let al_k = lined.2 in let spots = placed n al m k sized.0 lined.0 small in
    let units = in_units (n + word_align al) k m al_k (subst (λ (x : ℕ). m ≡ padded (n + word_align al) x) (sym lined.0) sized.0) small in
    let σ : Ty = wider m k al_k in let laid = is_wider m k al_k units small in let at_fits : m - k < 2 ^ 64 = omega (arith, m_fits) in
    let same = exact (size τ) n fits.0 (omega (arith, sized.1, small)) in
    let asked_for : IsSuffixed τ σ = (asked (λ (i a : ℕ). i + word_align a) (λ (_ a : ℕ). word_align a) τ σ n al m k fits laid sized.0 lined.0, subst (λ (x : ℕ). x < 2 ^ 63) (sym (exact (size σ) m laid.0 small)) small) in
    let place : m - k ≡ size σ - align σ = (λ i. sym (exact (size σ) m laid.0 small) i - sym (align_exact σ k laid.1) i) in
    let Word = λ (b o : ℕ). froom (ty_int w64) b (m - k + o) in let Way = λ (b o : ℕ). fwand (froom τ b o) (fwand (Word b o) (froom σ b o)) in
    let parted = λ (b o : ℕ). parts 𝓛 τ m k al_k b o units (subst (λ (x : ℕ). x ≤ m - k) (sym same) spots.fits) (subst (λ (x : ℕ). x ≤ k) (sym (align_exact τ al fits.1)) lined.1) spots.worded spots.within in
    let G = Writes 𝓛 𝓜.mem 𝓡.returns in let give = λ (b o w : ℕ). writes 𝓛 𝓜.mem 𝓡.returns b o (m - k) w in
    let ends : (b o : ℕ) → Sq 𝓛 (‵ (fat full_share (ty_int w64) b (m - k + o) (vint w64 canary)) ∷ ‵ (froom τ b o) ∷ ‵ (Way b o) ∷ ‵ (t σ (block_ptr b o)) ∷ ‵ (flft κ q)
    ∷ (‵ (flft κs.1.0 qs.1.0) ⊛ ‵ ftrue) ∷ []) (prop (Wk.post y (answer_val true b o))) = λ b o. (move ! (0 ∷ 2 ∷ 3 ∷ []) $ use3 𝓛 (‵ (suffixed_right canary t τ (block_ptr b o))) (packs 𝓛 t τ σ b o (m - k) canary asked_for place) $
    move ! (1 ∷ 0 ∷ []) $ fjoin ! $ leaves (Ok (block_ptr b o)) (answer_val true b o) (Answer-Ok 𝓛 b o)) in
    skips ! $ exec ! 𝓣.C 𝓣.Λ En (after 5 body) (at_ret En (Wk.post y)) $
    sets ! (bin ! (get ! refl) (get ! refl) spots.within) refl (tt, record { fits = at_fits }) $
    let K = Takes Z 𝓛 𝓜.mem 𝓡.returns in let take : K.Ghost = at_takes Z 𝓛 𝓜.mem 𝓡.returns κ q at heap m k σ in
    sets ! (addr ! (through ! refl (fld ! refl (stop !)))) refl (tt, tt) $
    use2 𝓛 (raw (K.pre take)) (Takes-goes Z 𝓛 𝓜.mem 𝓡.returns κ q at heap (⊑_trans κ κs.1.0 B.lives bounds.0 lives) m k σ laid.0 laid.1 m_fits k_fits) $
    calls_at ! (framed 𝓤 𝓛.H 𝓜 𝓣) K (inner.allocate d') take (and_then ! (get ! refl) (and_then ! (get ! refl) (and_then ! (get ! refl) (no_more !)))) (λ w.
    use1 𝓛 (later (raw (Answered Z 𝓛 𝓜.mem 𝓡.returns heap σ w) ⊛ ‵ (flft κ q))) (Takes-gives Z 𝓛 𝓜.mem 𝓡.returns κ q at heap m k σ w) $ await ! tt $ split ! $
    -- [the result; the token; the other token]
    answers Z ! 𝓜.mem 𝓡.returns heap σ w
    (λ b o granted. lands_as ! granted refl (Answer-typed true b o) $
    first ! $ switches_on ! (get_tag ! (vrt ! refl (fld ! refl (stop !))) (whole !)) $ exec ! 𝓣.C 𝓣.Λ En (arm_body 0 (front (after 8 body))) (Then 9) $
    sets_last ! (of_opd ! (get_in ! (vrt ! refl (fld ! refl (stop !))) (in_variant ! 0 0 refl refl (whole !)))) refl (tt, tt) $ exec ! 𝓣.C 𝓣.Λ En (after 9 body) (at_ret En (Wk.post y)) $
    use1 𝓛 (‵ (froom τ b o) ⊛ ‵ (Word b o) ⊛ ‵ (Way b o)) (parted b o) $ split3 ! $ move ! (1 ∷ []) $
    -- [room for the word; room for the block; the way back; the right; the token; the other token]
    use1 𝓛 (raw (G.pre (give b o canary))) (writes_go 𝓛 𝓜.mem 𝓡.returns b o (m - k) canary at_fits (lit< tt)) $ first ! $ blocks ! $
    calls_at_last ! (framed 𝓤 𝓛.H 𝓜 𝓣) G (write_met 𝓤 𝓛 𝓜 𝓡 (code.calls-aa_allocators::suffix::write_word 𝓡.env wired)) (give b o canary) (and_then ! (get ! refl) (and_then ! (get ! refl) (and_then ! (neg_lit ! tt) (no_more !)))) (λ z.
    wrote 𝓛 z (word_at canary (block_ptr b o) (m - k)) _ ! tt (λ done'. lands_last ! refl (subst (λ (x : Val). T (has_ty ty_unit x) × WT x) (sym done') (tt, tt)) $
    exec ! 𝓣.C 𝓣.Λ En (after 10 body) (at_ret En (Wk.post y)) $
    sets ! (agg ! (and_then ! (lit ! tt) (and_then ! (get ! refl) (no_more !)))) refl (Answer-typed true b o) $ returns ! (look_at ! 0 refl) $ free_all ! refl $ ends b o)))
    (λ none. lands_as ! none refl (Answer-typed false 0 0) $
    first ! $ switches_on ! (get_tag ! (vrt ! refl (fld ! refl (stop !))) (whole !)) $ exec ! 𝓣.C 𝓣.Λ En (arm_body 1 (front (after 8 body))) (Then 9) $
    sets ! (agg ! (no_more !)) refl (tt, tt) $ sets ! (agg ! (and_then ! (lit ! tt) (and_then ! (get ! refl) (no_more !)))) refl (Answer-typed false 0 0) $
    returns_within ! (Wk.post y) refl (look_at ! 0 refl) $ free_all ! refl $ nothing ! $ leaves (Err (record {})) (answer_val false 0 0) (Answer-err 𝓛))))))))))))
