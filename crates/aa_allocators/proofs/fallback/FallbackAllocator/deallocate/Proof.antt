-- The word after the block says which allocator deallocates it. Assumes `Logic`.
use Rattle.aa_allocators.proofs.Suffixing.{◌≡◌, ℕ, ◌+◌, ◌<◌, ◌^◌, Bool, List, [], ◌∷◌, refl, w64, arith, subst, sym, ◌∙◌, ◌-◌, owned_block, Al, seen, token, Gives, at_gives, Gives-goes, Gives-Gives, after, proved, inst_fn, Fn, Body, ty_int, Val, vunit, vint, vptr, ftrue, flft, froom, fwand, fst∗, never, apply∗, ◌⊑◌, ⊑_trans, fact, tables, capped_is, size, align, capped, Env, WpFn, alloc_all, pass_all, free_all, look_at, get, through, sets, lands_as, env, ‵, raw, ◌⊛◌, later, ◌$◌, ◌∵◌, !, qed, move, keep, use0, use1, use2, split, split3, join, fsplit, feq_i, await, done, prop, at_ret, Sq, given, learn, suffices, group, regoal, fpick, rewrite, sem, stop, fld, addr, lit, no_more, and_then, of_opd, first, branches, skips, exec, returns, returns_within, enter, unit_lit, uint_vals, uint_Tells, owns, Ptr, block_ptr, null_ptr, ptr_val, in_a_block, rawptr_vals, rawptr_Tells, shr_vals, types_at, nothing, heard, calls_at, framed, walk_of, ends_at, inner_of, dropped, gone, trues, spent, bin, full_share, fat, look, load, Sizes, sizes, sizes_go, Aligns, aligns, aligns_go, measured_bare, placed, bit_fits, is_one, is_zero, generics, second_of, reaches, ◌≤◌, right_of, IsAlignment, padded, fallback_right, word_align, is_alignment, found, align_exact, from_bool}
use Rattle.aa_allocators.proofs.suffix.suffixed_size.Met.{met as sizes_met}
use Rattle.aa_allocators.proofs.suffix.suffixed_align.Met.{met as aligns_met}
use Rattle.aa_allocators.specs.contracts.fallback.FallbackAllocator.deallocate as F
use Rattle.aa_allocators.proofs.fallback.FallbackAllocator.deallocate.Statement.{statement}
use Rattle.aa_allocators.proofs.fallback.FallbackAllocator.deallocate.Code as code

pub deallocate_spec : {M : Type 1} → statement M
deallocate_spec 𝓤 𝓛 𝓜 𝓡 wired B C LB LC g d gc dc d' dc' inner inner' drops drops' =
    let Z : Al = record { row = B; laws = LB; g = g; d = d; drops = d' } in let X : Al = record { row = C; laws = LC; g = gc; d = dc; drops = dc' } in
    let E = F.ended B C g d gc dc d' dc' in let c = F.clauses B C g d gc dc d' dc' 𝓛 𝓜.mem 𝓡.returns in let hs = dropped E.signature.params E.kept in
    let Wk = walk_of 𝓛 E hs c in let 𝓣 = tables 𝓤 𝓛.H 𝓜 𝓡 𝓡.env in let fn : Fn = inst_fn (generics Z X) code.function in
    proved 𝓛 E hs c 𝓜 𝓡 ((λ κs x f vs ok. gone 𝓛), ((λ κs x f vs ok. gone 𝓛), ((λ κs x f vs ok. gone 𝓛), ((λ κs x f vs ok. gone 𝓛), tt))))
    (F.Key.name (generics Z X)) fn (code.unfolded 𝓤 𝓛.H 𝓜 𝓡 wired (B, (C, tt)) d dc d' dc')
    (λ κs. (shr_vals, (rawptr_vals, (uint_vals w64, (uint_vals w64, tt))))) (λ κs. ((λ r vs is. is.0), (rawptr_Tells, (uint_Tells w64, (uint_Tells w64, tt))))) (λ κs qs bounds a τ are.
    let κ = κs.0 in let q = qs.0 in let r = a.0 in let n = a.1.1.0 in let al = a.1.1.1.0 in let n_fits = are.1.1.0.1 in let al_fits = are.1.1.1.0.1 in
    let heap : B.Denot = r.now.first in let at = inner_of Z r.ref_ptr in let heap' : C.Denot = r.now.second in let at' = second_of Z X r.ref_ptr in
    let Fits : Type 0 = (capped (size τ) ≡ n) × (capped (align τ) ≡ al) in
    let t = token Z heap in let u = token X heap' in let right = fallback_right t u in
    let S = Sizes 𝓛 𝓜.mem 𝓡.returns in let A = Aligns 𝓛 𝓜.mem 𝓡.returns in
    let Sized = λ (m : ℕ). (m ≡ padded (n + word_align al) (word_align al)) × (n ≤ m) in
    let Lined = λ (k : ℕ). (k ≡ word_align al) × (al ≤ k) × IsAlignment k in
    let y : Ptr → Wk.Ghost = λ p. ((κs, qs, bounds, (r, (p, (n, (al, tt)))), (shr_vals r, (rawptr_vals p, (uint_vals w64 n, (uint_vals w64 al, tt))))), τ) in
    qed 𝓛 (((‵ (flft κ q) ⊛ ‵ (flft κs.1.0 qs.1.0) ⊛ ‵ (flft κs.1.1.0 qs.1.1.0) ⊛ ‵ ftrue) ⊛ ‵ (owns (types_at E.signature.params κs) a (y a.1.0).0.4))
    ∷ (raw (fact 𝓤 (κs.1.0 ⊑ B.lives)) ⊛ raw (fact 𝓤 (κs.1.1.0 ⊑ C.lives)) ⊛ raw (fact 𝓤 Fits) ⊛ ‵ (owned_block right τ a.1.0)) ∷ []) ∵
    move ! (1 ∷ []) $ split ! $ heard ! _ (λ lives. split3 ! $ heard ! _ (λ lives'. heard ! Fits (λ fits. let aligned = is_alignment τ al fits.1 in
    in_a_block ! a.1.0 (λ p. owned_block right τ p) (fst∗ 𝓤 (never 𝓤) (sem 𝓛 (right τ null_ptr))) (λ b o is_block.
    regoal ! (λ (p : Ptr). prop (WpFn 𝓤 𝓛.H 𝓣.C 𝓣.Λ fn (vptr r.ref_ptr.0 r.ref_ptr.1 ∷ ptr_val p ∷ vint w64 n ∷ vint w64 al ∷ []) (Wk.post (y p)))) is_block refl $
    let ends : Sq 𝓛 (‵ (flft κ q) ∷ (‵ (flft κs.1.0 qs.1.0) ⊛ ‵ (flft κs.1.1.0 qs.1.1.0) ⊛ ‵ ftrue) ∷ []) (prop (Wk.post (y (block_ptr b o)) vunit)) =
    suffices ! _ (ends_at 𝓛 E hs c (y (block_ptr b o)) vunit tt (tt, (tt, (tt, (tt, tt)))) (tt, (tt, (tt, (tt, tt))))) $
    join ! $ nothing ! $ feq_i ! (List Val) (vunit ∷ []) (vunit ∷ []) refl $ use0 𝓛 (‵ (trues 𝓛 4)) (spent 𝓛 4) $ move ! (3 ∷ 0 ∷ 1 ∷ []) $ group ! 3 $ done ! in
    move ! (1 ∷ []) $ split ! $ split ! $ move ! (2 ∷ []) $ fsplit ! $
    use1 𝓛 (‵ (seen Z κ at heap) ⊛ ‵ (seen X κ at' heap')) (reaches Z X 𝓛 κ r) $ split ! $ keep ! (5 ∷ 0 ∷ 3 ∷ 1 ∷ 4 ∷ []) $
    -- [the block; the `&` to the first allocator; its token; the `&` to the second one; the other tokens]
    enter ! _ _ _ _ _ $ alloc_all ! (λ l. pass_all ! refl ((tt, tt), ((tt, tt), ((tt, record { fits = n_fits }), ((tt, record { fits = al_fits }), tt)))) $
    let En : Env 𝓤 𝓛.H = env fn.locals l in let body : Body = fn.body in
    use0 𝓛 (raw (S.pre (sizes 𝓛 𝓜.mem 𝓡.returns n al))) (sizes_go 𝓛 𝓜.mem 𝓡.returns n al aligned n_fits al_fits) $
    calls_at ! (framed 𝓤 𝓛.H 𝓜 𝓣) S (sizes_met 𝓤 𝓛 𝓜 𝓡 (code.calls-aa_allocators::suffix::suffixed_size 𝓡.env wired)) (sizes 𝓛 𝓜.mem 𝓡.returns n al) (and_then ! (get ! refl) (and_then ! (get ! refl) (no_more !))) (λ v.
    measured_bare 𝓛 v 2 Sized _ ! tt (λ m e m_fits sized. lands_as ! e refl (tt, record { fits = m_fits }) $
    use0 𝓛 (raw (A.pre (aligns 𝓛 𝓜.mem 𝓡.returns al))) (aligns_go 𝓛 𝓜.mem 𝓡.returns al aligned al_fits) $
    calls_at ! (framed 𝓤 𝓛.H 𝓜 𝓣) A (aligns_met 𝓤 𝓛 𝓜 𝓡 (code.calls-aa_allocators::suffix::suffixed_align 𝓡.env wired)) (aligns 𝓛 𝓜.mem 𝓡.returns al) (and_then ! (get ! refl) (no_more !)) (λ v'.
    measured_bare 𝓛 v' 1 Lined _ ! tt (λ k e' k_fits lined. lands_as ! e' refl (tt, record { fits = k_fits }) $
    fsplit ! $ move ! (1 ∷ []) $ fpick ! (λ x. fpick ! (λ σ. fpick ! (λ is. fsplit ! $ move ! (1 ∷ []) $ fsplit ! $ move ! (2 ∷ 0 ∷ []) $
    let laid = found (λ (i a : ℕ). i + word_align a) (λ (_ a : ℕ). word_align a) τ σ n al m k fits is.0 sized.0 lined.0 in
    let exactly : size σ ≡ m = sym (capped_is (size σ) (omega (arith, is.1))) ∙ laid.0 in let small : m < 2 ^ 63 = subst (λ (i : ℕ). i < 2 ^ 63) exactly is.1 in
    let spots = placed n al m k sized.0 lined.0 small in let at_fits : m - k < 2 ^ 64 = omega (arith, m_fits) in
    let place : size σ - align σ ≡ m - k = (λ i. exactly i - align_exact σ k laid.1 i) in
    let Word = λ (i : ℕ). froom (ty_int w64) b (i + o) in
    rewrite ! 0 (λ (i : ℕ). ‵ (fat full_share (ty_int w64) b (i + o) (vint w64 (from_bool x)))) place refl $
    rewrite ! 1 (λ (i : ℕ). ‵ (fwand (froom τ b o) (fwand (Word i) (froom σ b o)))) place refl $
    -- [the word; the way to the whole room; the right to free it; room for the block; the `&`s and tokens as above]
    sets ! (bin ! (get ! refl) (get ! refl) spots.within) refl (tt, record { fits = at_fits }) $
    sets ! (bin ! (get ! refl) (get ! refl) tt) refl (tt, tt) $ sets ! (of_opd ! (get ! refl)) refl (tt, tt) $
    sets ! (of_opd ! (load ! (through ! refl (stop !)) (look ! 0 refl))) refl (tt, record { fits = bit_fits x }) $
    sets ! (bin ! (get ! refl) (lit ! tt) tt) refl (tt, tt) $
    use1 𝓛 (‵ (Word (m - k))) (𝓛.laws.at_room (ty_int w64) b (m - k + o) (vint w64 (from_bool x))) $ move ! (3 ∷ 1 ∷ []) $
    use2 𝓛 (‵ (fwand (Word (m - k)) (froom σ b o))) (apply∗ 𝓤 (𝓛.H.room τ b o) (sem 𝓛 (fwand (Word (m - k)) (froom σ b o)))) $ move ! (1 ∷ 0 ∷ []) $
    use2 𝓛 (‵ (froom σ b o)) (apply∗ 𝓤 (𝓛.H.room (ty_int w64) b (m - k + o)) (𝓛.H.room σ b o)) $
    -- [its room; its right; the `&` to the first allocator; its token; the `&` to the second one; the other tokens]
    let Right = λ (i : Bool). ‵ (right_of i t u σ (block_ptr b o)) in
    let G = Gives Z 𝓛 𝓜.mem 𝓡.returns in let give : G.Ghost = at_gives Z 𝓛 𝓜.mem 𝓡.returns κ q at heap b o m k σ in
    let I = Gives X 𝓛 𝓜.mem 𝓡.returns in let give' : I.Ghost = at_gives X 𝓛 𝓜.mem 𝓡.returns κ q at' heap' b o m k σ in
    first ! $ branches ! (get ! refl)
    (λ yes. sets ! (addr ! (through ! refl (fld ! refl (stop !)))) refl (tt, tt) $ rewrite ! 1 Right (is_one x yes) refl $ group ! 4 $
    use1 𝓛 (raw (G.pre give)) (Gives-goes Z 𝓛 𝓜.mem 𝓡.returns κ q at heap (⊑_trans κ κs.1.0 B.lives bounds.0 lives) b o m k σ laid.0 laid.1 m_fits k_fits) $
    calls_at ! (framed 𝓤 𝓛.H 𝓜 𝓣) G (inner.deallocate d') give (and_then ! (get ! refl) (and_then ! (get ! refl) (and_then ! (get ! refl) (and_then ! (get ! refl) (no_more !))))) (λ w.
    use1 𝓛 (later (given (w ≡ vunit) (‵ (flft κ q)))) (Gives-Gives Z 𝓛 𝓜.mem 𝓡.returns κ q at heap b o m k σ w) $ await ! tt $ learn ! (λ freed. lands_as ! freed refl (tt, tt) $
    sets ! (of_opd ! (unit_lit !)) refl (tt, tt) $ returns_within ! (Wk.post (y (block_ptr b o))) refl (look_at ! 0 refl) $ free_all ! refl $ keep ! (0 ∷ 2 ∷ []) $ ends)))
    (λ no. skips ! $ exec ! 𝓣.C 𝓣.Λ En (after 8 body) (at_ret En (Wk.post (y (block_ptr b o)))) $
    sets ! (addr ! (through ! refl (fld ! refl (stop !)))) refl (tt, tt) $ rewrite ! 1 Right (is_zero x no) refl $ move ! (0 ∷ 1 ∷ 4 ∷ 3 ∷ []) $ group ! 4 $
    use1 𝓛 (raw (I.pre give')) (Gives-goes X 𝓛 𝓜.mem 𝓡.returns κ q at' heap' (⊑_trans κ κs.1.1.0 C.lives bounds.1.0 lives') b o m k σ laid.0 laid.1 m_fits k_fits) $
    calls_at ! (framed 𝓤 𝓛.H 𝓜 𝓣) I (inner'.deallocate dc') give' (and_then ! (get ! refl) (and_then ! (get ! refl) (and_then ! (get ! refl) (and_then ! (get ! refl) (no_more !))))) (λ w.
    use1 𝓛 (later (given (w ≡ vunit) (‵ (flft κ q)))) (Gives-Gives X 𝓛 𝓜.mem 𝓡.returns κ q at' heap' b o m k σ w) $ await ! tt $ learn ! (λ freed. lands_as ! freed refl (tt, tt) $
    sets ! (of_opd ! (unit_lit !)) refl (tt, tt) $ returns ! (look_at ! 0 refl) $ free_all ! refl $ keep ! (0 ∷ 2 ∷ []) $ ends))))))))))))))))
