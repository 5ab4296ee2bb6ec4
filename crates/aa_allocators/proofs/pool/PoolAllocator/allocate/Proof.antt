-- A block comes from the shelf, or else from the inner allocator. Assumes `Logic`.
use Rattle.aa_allocators.proofs.Pooling.{◌≡◌, [], ◌∷◌, refl, w64, true, false, Ok, Err, block_if_ok, Al, seen, token, Answer, answer_val, Answer-typed, Answer-Ok, Answer-err, Takes, at_takes, Answered, Takes-goes, Takes-gives, answers, after, front, arm_body, proved, inst_fn, Fn, Body, Ty, Val, ftrue, flft, fex, ent, emp, ◌⊑◌, ⊑_trans, fact, tables, size, align, capped, Env, Wp, after_seq, at_return, alloc_all, pass_all, free_all, look_at, get, get_in, get_tag, through, sets, sets_last, lands_as, env, ‵, raw, ◌⊛◌, later, ◌$◌, ◌∵◌, !, qed, move, keep, use0, use1, use2, split, join, fsplit, fjoin, await, done, prop, at_ret, any_q, Sq, Post, suffices, group, fpack, sem, vrt, in_variant, agg, whole, stop, fld, addr, lit, no_more, and_then, of_opd, first, switches_on, exec, returns, returns_within, enter, uint_vals, uint_Tells, owns, block_ptr, shr_vals, types_at, nothing, heard, calls_at, triple_of, framed, walk_of, ends_at, inner_of, dropped, gone, trues, spent, generics, shelf_of, Shelved, passes_shelf, reaches}
use Rattle.aa_allocators.proofs.shelf.Shelf.take.Met.{met}
use Rattle.aa_allocators.specs.contracts.shelf.Shelf.take as take
use Rattle.aa_allocators.specs.contracts.pool.PoolAllocator.allocate as F
use Rattle.aa_allocators.proofs.pool.PoolAllocator.allocate.Statement.{statement}
use Rattle.aa_allocators.proofs.pool.PoolAllocator.allocate.Code as code

pub allocate_spec : {M : Type 1} → statement M
allocate_spec 𝓤 𝓛 𝓜 𝓡 wired B L g d d' inner drops =
    let Z : Al = record { row = B; laws = L; g = g; d = d; drops = d' } in let K : Al = Shelved Z in
    let E = F.ended B g d d' in let c = F.clauses B g d d' 𝓛 𝓜.mem 𝓡.returns in let hs = dropped E.signature.params E.kept in
    let Wk = walk_of 𝓛 E hs c in let 𝓣 = tables 𝓤 𝓛.H 𝓜 𝓡 𝓡.env in let fn : Fn = inst_fn (generics B d d') code.function in
    proved 𝓛 E hs c 𝓜 𝓡 ((λ κs x f vs ok. gone 𝓛), ((λ κs x f vs ok. gone 𝓛), ((λ κs x f vs ok. gone 𝓛), tt))) (F.Key.name (generics B d d')) fn (code.unfolded 𝓤 𝓛.H 𝓜 𝓡 wired (B, tt) d d')
    (λ κs. (shr_vals, (uint_vals w64, (uint_vals w64, tt)))) (λ κs. ((λ r vs is. is.0), (uint_Tells w64, (uint_Tells w64, tt)))) (λ κs qs bounds a τ are.
    let κ = κs.0 in let q = qs.0 in let r = a.0 in let n = a.1.0 in let al = a.1.1.0 in let n_fits = are.1.0.1 in let al_fits = are.1.1.0.1 in
    let heap : B.Denot = r.now.inner in let at = inner_of Z r.ref_ptr in let spot = shelf_of Z r.ref_ptr in
    let y : Wk.Ghost = ((κs, qs, bounds, a, (shr_vals r, (uint_vals w64 n, (uint_vals w64 al, tt)))), τ) in
    let Fits : Type 0 = (capped (size τ) ≡ n) × (capped (align τ) ≡ al) in
    let S = triple_of 𝓛 (take.signature B g d d') (take.spec B g d d' 𝓛 𝓜.mem 𝓡.returns) in let asked : S.Ghost = at_takes K 𝓛 𝓜.mem 𝓡.returns κ q spot heap n al τ in
    let T = Takes Z 𝓛 𝓜.mem 𝓡.returns in let taken : T.Ghost = at_takes Z 𝓛 𝓜.mem 𝓡.returns κ q at heap n al τ in
    let leaves : (x : Answer.Denot) (v : Val) → ent 𝓤 (emp 𝓤) (sem 𝓛 (Answer.own_val x (v ∷ [])))
    → Sq 𝓛 (‵ (block_if_ok (token K heap) τ x) ∷ ‵ (flft κ q) ∷ (‵ (flft κs.1.0 qs.1.0) ⊛ ‵ ftrue) ∷ []) (prop (Wk.post y v)) = λ x v made.
    suffices ! _ (ends_at 𝓛 E hs c y v x (tt, (tt, (tt, tt))) (tt, (tt, (tt, tt)))) $
    move ! (1 ∷ 2 ∷ []) $ join ! $ use0 𝓛 (‵ (Answer.own_val x (v ∷ []))) made $ use0 𝓛 (‵ (trues 𝓛 3)) (spent 𝓛 3) $ move ! (2 ∷ 0 ∷ 1 ∷ []) $ group ! 3 $ done ! in
    qed 𝓛 (((‵ (flft κ q) ⊛ ‵ (flft κs.1.0 qs.1.0) ⊛ ‵ ftrue) ⊛ ‵ (owns (types_at E.signature.params κs) a y.0.4)) ∷ (raw (fact 𝓤 (κs.1.0 ⊑ B.lives)) ⊛ raw (fact 𝓤 Fits)) ∷ []) ∵
    move ! (1 ∷ []) $ split ! $ heard ! _ (λ lives. heard ! Fits (λ fits. let lasts = ⊑_trans κ κs.1.0 B.lives bounds.0 lives in
    split ! $ split ! $ move ! (2 ∷ []) $ fsplit ! $
    use1 𝓛 (‵ (seen Z κ at heap) ⊛ ‵ (seen K κ spot heap)) (reaches Z 𝓛 κ r) $ split ! $ keep ! (1 ∷ 3 ∷ 0 ∷ 4 ∷ []) $
    -- [the `&` to the shelf; its token; the `&` to the inner allocator; the other token]
    enter ! _ _ _ _ _ $ alloc_all ! (λ l. pass_all ! refl ((tt, tt), ((tt, record { fits = n_fits }), ((tt, record { fits = al_fits }), tt))) $
    let En : Env 𝓤 𝓛.H = env fn.locals l in let body : Body = fn.body in
    let Then : Post 𝓤 𝓛.H = any_q (after_seq 𝓤 𝓛.H (Wp 𝓤 𝓛.H 𝓣.C 𝓣.Λ En (after 3 body) (at_return 𝓤 𝓛.H En (Wk.post y))) (at_return 𝓤 𝓛.H En (Wk.post y))) in
    sets ! (addr ! (through ! refl (fld ! refl (stop !)))) refl (tt, tt) $
    use2 𝓛 (raw (S.pre asked)) (passes_shelf Z 𝓛 κ lasts (take.signature B g d d') asked.0 (fact 𝓤 Fits) (λ le. Takes-goes K 𝓛 𝓜.mem 𝓡.returns κ q spot heap le n al τ fits.0 fits.1 n_fits al_fits)) $
    calls_at ! (framed 𝓤 𝓛.H 𝓜 𝓣) S (met 𝓤 𝓛 𝓜 𝓡 (code.calls-aa_allocators::shelf::Shelf::take 𝓡.env wired) B L g d d' inner drops) asked
    (and_then ! (get ! refl) (and_then ! (get ! refl) (and_then ! (get ! refl) (no_more !)))) (λ v.
    use1 𝓛 (later (raw (Answered K 𝓛 𝓜.mem 𝓡.returns heap τ v) ⊛ ‵ (flft κ q))) (Takes-gives K 𝓛 𝓜.mem 𝓡.returns κ q spot heap n al τ v) $ await ! tt $ split ! $
    -- [the result; the token; the `&` to the inner allocator; the other token]
    answers K ! 𝓜.mem 𝓡.returns heap τ v
    (λ b o granted. lands_as ! granted refl (Answer-typed true b o) $
    first ! $ switches_on ! (get_tag ! (vrt ! refl (fld ! refl (stop !))) (whole !)) $ exec ! 𝓣.C 𝓣.Λ En (arm_body 0 (front (after 2 body))) Then $
    sets_last ! (of_opd ! (get_in ! (vrt ! refl (fld ! refl (stop !))) (in_variant ! 0 0 refl refl (whole !)))) refl (tt, tt) $ exec ! 𝓣.C 𝓣.Λ En (after 3 body) (at_ret En (Wk.post y)) $
    sets ! (agg ! (and_then ! (lit ! tt) (and_then ! (get ! refl) (no_more !)))) refl (Answer-typed true b o) $ returns ! (look_at ! 0 refl) $ free_all ! refl $
    fjoin ! $ keep ! (0 ∷ 1 ∷ 3 ∷ []) $ leaves (Ok (block_ptr b o)) (answer_val true b o) (Answer-Ok 𝓛 b o))
    (λ none. lands_as ! none refl (Answer-typed false 0 0) $
    first ! $ switches_on ! (get_tag ! (vrt ! refl (fld ! refl (stop !))) (whole !)) $ exec ! 𝓣.C 𝓣.Λ En (arm_body 1 (front (after 2 body))) Then $
    sets ! (addr ! (through ! refl (fld ! refl (stop !)))) refl (tt, tt) $ move ! (1 ∷ 0 ∷ []) $
    use2 𝓛 (raw (T.pre taken)) (Takes-goes Z 𝓛 𝓜.mem 𝓡.returns κ q at heap lasts n al τ fits.0 fits.1 n_fits al_fits) $
    calls_at ! (framed 𝓤 𝓛.H 𝓜 𝓣) T (inner.allocate d') taken (and_then ! (get ! refl) (and_then ! (get ! refl) (and_then ! (get ! refl) (no_more !)))) (λ w.
    use1 𝓛 (later (raw (Answered Z 𝓛 𝓜.mem 𝓡.returns heap τ w) ⊛ ‵ (flft κ q))) (Takes-gives Z 𝓛 𝓜.mem 𝓡.returns κ q at heap n al τ w) $ await ! tt $ split ! $
    -- [the result; the token; the other token]
    answers Z ! 𝓜.mem 𝓡.returns heap τ w
    (λ b o granted. lands_as ! granted refl (Answer-typed true b o) $ returns_within ! (Wk.post y) refl (look_at ! 0 refl) $ free_all ! refl $
    move ! (1 ∷ []) $ fpack ! ((size τ ≡ size τ) × (align τ ≡ align τ)) (λ _. token Z heap τ (block_ptr b o)) (refl, refl) $
    fpack ! Ty (λ σ. fex ((size σ ≡ size τ) × (align σ ≡ align τ)) (λ _. token Z heap σ (block_ptr b o))) τ $ move ! (1 ∷ 0 ∷ []) $ fjoin ! $
    leaves (Ok (block_ptr b o)) (answer_val true b o) (Answer-Ok 𝓛 b o))
    (λ refused. lands_as ! refused refl (Answer-typed false 0 0) $ returns_within ! (Wk.post y) refl (look_at ! 0 refl) $ free_all ! refl $
    nothing ! $ leaves (Err (record {})) (answer_val false 0 0) (Answer-err 𝓛)))))))))
