-- The request is passed on, unless it is too large. Assumes `Logic`.
use Rattle.aa_allocators.proofs.Zeroed.{◌≡◌, ℕ, ◌<◌, ◌^◌, [], ◌∷◌, refl, w64, true, false, Ok, Err, arith, subst, sym, ◌-◌, block_if_ok, Al, seen, token, Answer, answer_val, Answer-typed, Answer-Ok, Answer-err, Takes, at_takes, Answered, Takes-goes, Takes-gives, answers, after, proved, inst_fn, Fn, Body, Val, ftrue, flft, ent, emp, ◌⊑◌, ⊑_trans, fact, tables, size, align, capped, Env, alloc_all, pass_all, free_all, look_at, get, through, sets, lands_as, env, ‵, raw, ◌⊛◌, later, ◌$◌, ◌∵◌, !, qed, move, keep, use0, use1, use2, split, join, fsplit, fjoin, await, done, prop, at_ret, Sq, suffices, group, fpack, sem, agg, stop, fld, addr, lit, no_more, and_then, first, branches, skips, exec, returns, returns_within, enter, uint_vals, uint_Tells, owns, block_ptr, shr_vals, types_at, nothing, heard, calls_at, framed, walk_of, ends_at, inner_of, dropped, gone, trues, spent, bin, neg_lit, nltb→le, counted_right, exact, generics, few, reaches}
use Rattle.aa_allocators.specs.contracts.zeroing.ZeroingAllocator.allocate as F
use Rattle.aa_allocators.proofs.zeroing.ZeroingAllocator.allocate.Statement.{statement}
use Rattle.aa_allocators.proofs.zeroing.ZeroingAllocator.allocate.Code as code

pub allocate_spec : {M : Type 1} → statement M
allocate_spec 𝓤 𝓛 𝓜 𝓡 wired B L g d d' inner drops =
    let Z : Al = record { row = B; laws = L; g = g; d = d; drops = d' } in
    let E = F.ended B g d d' in let c = F.clauses B g d d' 𝓛 𝓜.mem 𝓡.returns in let hs = dropped E.signature.params E.kept in
    let Wk = walk_of 𝓛 E hs c in let 𝓣 = tables 𝓤 𝓛.H 𝓜 𝓡 𝓡.env in let fn : Fn = inst_fn (generics B d d') code.function in
    proved 𝓛 E hs c 𝓜 𝓡 ((λ κs x f vs ok. gone 𝓛), ((λ κs x f vs ok. gone 𝓛), ((λ κs x f vs ok. gone 𝓛), tt))) (F.Key.name (generics B d d')) fn (code.unfolded 𝓤 𝓛.H 𝓜 𝓡 wired (B, tt) d d')
    (λ κs. (shr_vals, (uint_vals w64, (uint_vals w64, tt)))) (λ κs. ((λ r vs is. is.0), (uint_Tells w64, (uint_Tells w64, tt)))) (λ κs qs bounds a τ are.
    let κ = κs.0 in let q = qs.0 in let r = a.0 in let n = a.1.0 in let al = a.1.1.0 in let n_fits = are.1.0.1 in let al_fits = are.1.1.0.1 in
    let heap : B.Denot = r.now.inner in let at = inner_of Z r.ref_ptr in
    let y : Wk.Ghost = ((κs, qs, bounds, a, (shr_vals r, (uint_vals w64 n, (uint_vals w64 al, tt)))), τ) in
    let Fits : Type 0 = (capped (size τ) ≡ n) × (capped (align τ) ≡ al) in
    let K = Takes Z 𝓛 𝓜.mem 𝓡.returns in let take : K.Ghost = at_takes Z 𝓛 𝓜.mem 𝓡.returns κ q at heap n al τ in
    let leaves : (x : Answer.Denot) (v : Val) → ent 𝓤 (emp 𝓤) (sem 𝓛 (Answer.own_val x (v ∷ [])))
    → Sq 𝓛 (‵ (block_if_ok (counted_right (token Z heap)) τ x) ∷ ‵ (flft κ q) ∷ (‵ (flft κs.1.0 qs.1.0) ⊛ ‵ ftrue) ∷ []) (prop (Wk.post y v)) = λ x v made.
    suffices ! _ (ends_at 𝓛 E hs c y v x (tt, (tt, (tt, tt))) (tt, (tt, (tt, tt)))) $
    move ! (1 ∷ 2 ∷ []) $ join ! $ use0 𝓛 (‵ (Answer.own_val x (v ∷ []))) made $ use0 𝓛 (‵ (trues 𝓛 3)) (spent 𝓛 3) $ move ! (2 ∷ 0 ∷ 1 ∷ []) $ group ! 3 $ done ! in
    qed 𝓛 (((‵ (flft κ q) ⊛ ‵ (flft κs.1.0 qs.1.0) ⊛ ‵ ftrue) ⊛ ‵ (owns (types_at E.signature.params κs) a y.0.4)) ∷ (raw (fact 𝓤 (κs.1.0 ⊑ B.lives)) ⊛ raw (fact 𝓤 Fits)) ∷ []) ∵
    move ! (1 ∷ []) $ split ! $ heard ! _ (λ lives. heard ! Fits (λ fits. let lasts = ⊑_trans κ κs.1.0 B.lives bounds.0 lives in
    split ! $ split ! $ move ! (2 ∷ []) $ fsplit ! $
    use1 𝓛 (‵ (seen Z κ at heap)) (reaches Z 𝓛 κ r) $ keep ! (0 ∷ 2 ∷ 3 ∷ []) $
    -- [the `&` to the inner allocator; its token; the other token]
    enter ! _ _ _ _ _ $ alloc_all ! (λ l. pass_all ! refl ((tt, tt), ((tt, record { fits = n_fits }), ((tt, record { fits = al_fits }), tt))) $
    let En : Env 𝓤 𝓛.H = env fn.locals l in let body : Body = fn.body in
    let low : 2 ^ 64 - 1 - n < 2 ^ 64 = omega arith in
    sets ! (bin ! (neg_lit ! tt) (get ! refl) (omega (arith, n_fits))) refl (tt, record { fits = low }) $ sets ! (bin ! (get ! refl) (get ! refl) tt) refl (tt, tt) $
    first ! $ branches ! (get ! refl)
    (λ _. sets ! (agg ! (no_more !)) refl (tt, tt) $ sets ! (agg ! (and_then ! (lit ! tt) (and_then ! (get ! refl) (no_more !)))) refl (Answer-typed false 0 0) $
    returns_within ! (Wk.post y) refl (look_at ! 0 refl) $ free_all ! refl $ keep ! (1 ∷ 2 ∷ []) $ nothing ! $ leaves (Err (record {})) (answer_val false 0 0) (Answer-err 𝓛))
    (λ within. let small = few n (nltb→le (2 ^ 64 - 1 - n) n within) in let counted : size τ < 2 ^ 63 = subst (λ (x : ℕ). x < 2 ^ 63) (sym (exact (size τ) n fits.0 small)) small in
    skips ! $ exec ! 𝓣.C 𝓣.Λ En (after 3 body) (at_ret En (Wk.post y)) $
    sets ! (addr ! (through ! refl (fld ! refl (stop !)))) refl (tt, tt) $
    use2 𝓛 (raw (K.pre take)) (Takes-goes Z 𝓛 𝓜.mem 𝓡.returns κ q at heap lasts n al τ fits.0 fits.1 n_fits al_fits) $
    calls_at ! (framed 𝓤 𝓛.H 𝓜 𝓣) K (inner.allocate d') take (and_then ! (get ! refl) (and_then ! (get ! refl) (and_then ! (get ! refl) (no_more !)))) (λ w.
    use1 𝓛 (later (raw (Answered Z 𝓛 𝓜.mem 𝓡.returns heap τ w) ⊛ ‵ (flft κ q))) (Takes-gives Z 𝓛 𝓜.mem 𝓡.returns κ q at heap n al τ w) $ await ! tt $ split ! $
    -- [the result; the token; the other token]
    answers Z ! 𝓜.mem 𝓡.returns heap τ w
    (λ b o granted. lands_as ! granted refl (Answer-typed true b o) $ returns ! (look_at ! 0 refl) $ free_all ! refl $
    move ! (1 ∷ []) $ fpack ! (size τ < 2 ^ 63) (λ _. token Z heap τ (block_ptr b o)) counted $ move ! (1 ∷ 0 ∷ []) $ fjoin ! $
    leaves (Ok (block_ptr b o)) (answer_val true b o) (Answer-Ok 𝓛 b o))
    (λ refused. lands_as ! refused refl (Answer-typed false 0 0) $ returns ! (look_at ! 0 refl) $ free_all ! refl $
    nothing ! $ leaves (Err (record {})) (answer_val false 0 0) (Answer-err 𝓛))))))))
