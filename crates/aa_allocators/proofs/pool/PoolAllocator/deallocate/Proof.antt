-- The block is put on the shelf, or else deallocated with the inner allocator. Assumes `Logic`.
use Rattle.aa_allocators.proofs.Pooling.{◌≡◌, ℕ, Bool, List, [], ◌∷◌, refl, ap, w64, false, subst, sym, ◌∙◌, owned_block, bool, Al, seen, token, Gives, at_gives, Gives-goes, Gives-Gives, after, proved, inst_fn, Fn, Body, Val, vunit, vint, vptr, Fml, ftrue, flft, froom, fwand, sep, fst∗, never, ◌⊑◌, ⊑_trans, fact, tables, Dv, dv_self, size, align, capped, Env, WpFn, alloc_all, pass_all, free_all, look_at, get, through, sets, lands_as, env, ‵, raw, ◌⊛◌, later, ◌$◌, ◌∵◌, !, qed, move, keep, drop, use0, use1, split, split3, join, fsplit, feq_i, feq_l, await, done, prop, at_ret, Sq, given, learn, suffices, group, regoal, fpick, rewrite, sem, stop, fld, addr, no_more, and_then, of_opd, first, branches, skips, exec, returns, returns_within, enter, unit_lit, uint_vals, uint_Tells, owns, Ptr, block_ptr, null_ptr, ptr_val, in_a_block, rawptr_vals, rawptr_Tells, shr_vals, types_at, nothing, only, heard, calls_at, triple_of, framed, walk_of, ends_at, inner_of, dropped, gone, trues, spent, ended, block_unless, generics, shelf_of, Shelved, passes_shelf, reaches}
use lib.Ieee.Bits.{is_false}
use Rattle.aa_allocators.proofs.shelf.Shelf.put.Met.{met}
use Rattle.aa_allocators.specs.contracts.shelf.Shelf.put as put
use Rattle.aa_allocators.specs.contracts.pool.PoolAllocator.deallocate as F
use Rattle.aa_allocators.proofs.pool.PoolAllocator.deallocate.Statement.{statement}
use Rattle.aa_allocators.proofs.pool.PoolAllocator.deallocate.Code as code

pub deallocate_spec : {M : Type 1} → statement M
deallocate_spec 𝓤 𝓛 𝓜 𝓡 wired B L g d d' inner drops =
    let Z : Al = record { row = B; laws = L; g = g; d = d; drops = d' } in let K : Al = Shelved Z in
    let E = F.ended B g d d' in let c = F.clauses B g d d' 𝓛 𝓜.mem 𝓡.returns in let hs = dropped E.signature.params E.kept in
    let Wk = walk_of 𝓛 E hs c in let 𝓣 = tables 𝓤 𝓛.H 𝓜 𝓡 𝓡.env in let fn : Fn = inst_fn (generics B d d') code.function in
    proved 𝓛 E hs c 𝓜 𝓡 ((λ κs x f vs ok. gone 𝓛), ((λ κs x f vs ok. gone 𝓛), ((λ κs x f vs ok. gone 𝓛), ((λ κs x f vs ok. gone 𝓛), tt)))) (F.Key.name (generics B d d')) fn (code.unfolded 𝓤 𝓛.H 𝓜 𝓡 wired (B, tt) d d')
    (λ κs. (shr_vals, (rawptr_vals, (uint_vals w64, (uint_vals w64, tt))))) (λ κs. ((λ r vs is. is.0), (rawptr_Tells, (uint_Tells w64, (uint_Tells w64, tt))))) (λ κs qs bounds a τ are.
    let κ = κs.0 in let q = qs.0 in let r = a.0 in let n = a.1.1.0 in let al = a.1.1.1.0 in let n_fits = are.1.1.0.1 in let al_fits = are.1.1.1.0.1 in
    let heap : B.Denot = r.now.inner in let at = inner_of Z r.ref_ptr in let spot = shelf_of Z r.ref_ptr in
    let y : Ptr → Wk.Ghost = λ p. ((κs, qs, bounds, (r, (p, (n, (al, tt)))), (shr_vals r, (rawptr_vals p, (uint_vals w64 n, (uint_vals w64 al, tt))))), τ) in
    let Fits : Type 0 = (capped (size τ) ≡ n) × (capped (align τ) ≡ al) in
    qed 𝓛 (((‵ (flft κ q) ⊛ ‵ (flft κs.1.0 qs.1.0) ⊛ ‵ ftrue) ⊛ ‵ (owns (types_at E.signature.params κs) a (y a.1.0).0.4))
    ∷ (raw (fact 𝓤 (κs.1.0 ⊑ B.lives)) ⊛ raw (fact 𝓤 Fits) ⊛ ‵ (owned_block (token K heap) τ a.1.0)) ∷ []) ∵
    move ! (1 ∷ []) $ split3 ! $ heard ! _ (λ lives. heard ! Fits (λ fits. let lasts = ⊑_trans κ κs.1.0 B.lives bounds.0 lives in
    in_a_block ! a.1.0 (λ p. owned_block (token K heap) τ p) (fst∗ 𝓤 (never 𝓤) (sem 𝓛 (token K heap τ null_ptr))) (λ b o is_block.
    regoal ! (λ (p : Ptr). prop (WpFn 𝓤 𝓛.H 𝓣.C 𝓣.Λ fn (vptr r.ref_ptr.0 r.ref_ptr.1 ∷ ptr_val p ∷ vint w64 n ∷ vint w64 al ∷ []) (Wk.post (y p)))) is_block refl $
    let ends : Sq 𝓛 (‵ (flft κ q) ∷ (‵ (flft κs.1.0 qs.1.0) ⊛ ‵ ftrue) ∷ []) (prop (Wk.post (y (block_ptr b o)) vunit)) =
    suffices ! _ (ends_at 𝓛 E hs c (y (block_ptr b o)) vunit tt (tt, (tt, (tt, (tt, tt)))) (tt, (tt, (tt, (tt, tt))))) $
    join ! $ nothing ! $ feq_i ! (List Val) (vunit ∷ []) (vunit ∷ []) refl $ use0 𝓛 (‵ (trues 𝓛 4)) (spent 𝓛 4) $ move ! (3 ∷ 0 ∷ 1 ∷ []) $ group ! 3 $ done ! in
    move ! (1 ∷ []) $ split ! $ split ! $ move ! (2 ∷ []) $ fsplit ! $
    use1 𝓛 (‵ (seen Z κ at heap) ⊛ ‵ (seen K κ spot heap)) (reaches Z 𝓛 κ r) $ split ! $ keep ! (5 ∷ 1 ∷ 3 ∷ 0 ∷ 4 ∷ []) $
    -- [the block; the `&` to the shelf; its token; the `&` to the inner allocator; the other token]
    enter ! _ _ _ _ _ $ alloc_all ! (λ l. pass_all ! refl ((tt, tt), ((tt, tt), ((tt, record { fits = n_fits }), ((tt, record { fits = al_fits }), tt)))) $
    let En : Env 𝓤 𝓛.H = env fn.locals l in let body : Body = fn.body in
    let S = triple_of 𝓛 (put.signature B g d d') (put.spec B g d d' 𝓛 𝓜.mem 𝓡.returns) in let puts : S.Ghost = at_gives K 𝓛 𝓜.mem 𝓡.returns κ q spot heap b o n al τ in
    let Unless : Bool → Fml = λ x. block_unless x (token K heap) τ (block_ptr b o) in
    sets ! (addr ! (through ! refl (fld ! refl (stop !)))) refl (tt, tt) $ fsplit ! $ group ! 4 $
    use1 𝓛 (raw (S.pre puts)) (passes_shelf Z 𝓛 κ lasts (put.signature B g d d') puts.0 (sep 𝓤 (fact 𝓤 Fits) (sem 𝓛 (Unless false))) (λ le.
    Gives-goes K 𝓛 𝓜.mem 𝓡.returns κ q spot heap le b o n al τ fits.0 fits.1 n_fits al_fits)) $
    calls_at ! (framed 𝓤 𝓛.H 𝓜 𝓣) S (met 𝓤 𝓛 𝓜 𝓡 (code.calls-aa_allocators::shelf::Shelf::put 𝓡.env wired) B L g d d' inner drops) puts
    (and_then ! (get ! refl) (and_then ! (get ! refl) (and_then ! (get ! refl) (and_then ! (get ! refl) (no_more !))))) (λ v.
    ended 𝓛 κ q 4 bool v Unless _ ! tt (λ x. feq_l ! (λ told. lands_as ! (ap only told) refl (tt, tt) $
    -- [the block, unless it was put there; the token; the `&` to the inner allocator; the other token]
    first ! $ branches ! (get ! refl)
    (λ _. sets ! (of_opd ! (unit_lit !)) refl (tt, tt) $ returns_within ! (Wk.post (y (block_ptr b o))) refl (look_at ! 0 refl) $ free_all ! refl $ keep ! (1 ∷ 3 ∷ []) $ ends)
    (λ no. skips ! $ exec ! 𝓣.C 𝓣.Λ En (after 3 body) (at_ret En (Wk.post (y (block_ptr b o)))) $
    rewrite ! 0 (λ (x : Bool). ‵ (Unless x)) (is_false x no) refl $ fsplit ! $ move ! (1 ∷ []) $ fpick ! (λ σ. fpick ! (λ alike. move ! (1 ∷ []) $
    use1 𝓛 (‵ (froom σ b o) ⊛ ‵ (fwand (froom σ b o) (froom τ b o))) (𝓛.laws.room_as τ σ b o alike.0 (subst (λ (k : ℕ). Dv k (align τ)) (sym alike.1) (dv_self (align τ)))) $
    split ! $ move ! (1 ∷ []) $ drop ! $
    -- [its room; its right; the token; the `&` to the inner allocator; the other token]
    sets ! (addr ! (through ! refl (fld ! refl (stop !)))) refl (tt, tt) $ move ! (0 ∷ 1 ∷ 3 ∷ 2 ∷ []) $ group ! 4 $
    let G = Gives Z 𝓛 𝓜.mem 𝓡.returns in let give : G.Ghost = at_gives Z 𝓛 𝓜.mem 𝓡.returns κ q at heap b o n al σ in
    use1 𝓛 (raw (G.pre give)) (Gives-goes Z 𝓛 𝓜.mem 𝓡.returns κ q at heap lasts b o n al σ (ap capped alike.0 ∙ fits.0) (ap capped alike.1 ∙ fits.1) n_fits al_fits) $
    calls_at ! (framed 𝓤 𝓛.H 𝓜 𝓣) G (inner.deallocate d') give (and_then ! (get ! refl) (and_then ! (get ! refl) (and_then ! (get ! refl) (and_then ! (get ! refl) (no_more !))))) (λ u.
    use1 𝓛 (later (given (u ≡ vunit) (‵ (flft κ q)))) (Gives-Gives Z 𝓛 𝓜.mem 𝓡.returns κ q at heap b o n al σ u) $ await ! tt $ learn ! (λ freed. lands_as ! freed refl (tt, tt) $
    sets ! (of_opd ! (unit_lit !)) refl (tt, tt) $ returns ! (look_at ! 0 refl) $ free_all ! refl $ ends)))))))))))))
