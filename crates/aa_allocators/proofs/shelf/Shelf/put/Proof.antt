-- The block leads to the one that was on top. Assumes `Logic`.
use Rattle.aa_allocators.proofs.Shelving.{◌≡◌, ℕ, ◌+◌, ◌<◌, ◌^◌, Bool, List, [], ◌∷◌, refl, ap, w64, true, false, arith, suc, sym, ◌++◌, ◌∙◌, owned_block, full_share, after, head, inside, is_so, leaves, inst_fn, Fn, Ty, ty_ptr, Val, vint, vptr, vbool, Fml, Lft, Share, ftrue, fsep, flft, fex, froom, ftok, SProp, fst∗, never, apply∗, wand, every, ◌⊑◌, fact, size, align, capped, Env, WpFn, alloc_all, pass_all, free_all, look_at, get, through, sets, sets_last, env, ‵, raw, ◌⊛◌, ◌$◌, ◌∵◌, !, qed, move, keep, use0, use1, use2, split, split3, join, fsplit, fjoin, feq_i, prop, at_ret, Sq, regoal, by, fpack, fpick, rewrite, sem, whole, look_in, store_in, sub, stop, fld, addr, lit, of_opd, first, branches, skips, exec, returns, returns_within, enter, assigns, bin, blocks, false_lit, load, true_lit, init, param, RattleType, owns, Ptr, block_ptr, null_ptr, ptr_val, in_a_block, rawptr_Lawful, types_at, nothing, heard, walk_of, dropped, gone, trues, spent, IsKept, block_unless, free_block, right_to, stack, generics, opens_shelf, shuts_shelf, fills, holding_token, proved_alone, left_block, readies}
use lib.Dec.{nleb→lt}
use Rattle.aa_allocators.specs.contracts.shelf.Shelf.put as puts
use Rattle.aa_allocators.proofs.shelf.Shelf.put.Statement.{statement}
use Rattle.aa_allocators.proofs.shelf.Shelf.put.Code as code

pub put_spec : {M : Type 1} → statement M
unfolding code.code
put_spec 𝓤 𝓛 𝓜 𝓡 wired B L g d dd met md =
    let E = puts.ended B g d dd in let c₀ = puts.clauses B g d dd 𝓛 𝓜.mem 𝓡.returns in
    let fn : Fn = inst_fn (generics B d dd) code.function in
    let stays = dropped E.signature.params E.kept in
    let c = holding_token 𝓛 E stays c₀ in
    proved_alone 𝓛 E stays c₀ 𝓜 𝓡 ((λ κs x f vs ok. gone 𝓛), ((λ κs x f vs ok. gone 𝓛), ((λ κs x f vs ok. gone 𝓛), ((λ κs x f vs ok. gone 𝓛), tt))))
    (puts.Key.name (generics B d dd)) fn (wired.0.0 (puts.Key.name (generics B d dd)) refl) (λ C Λ z are.
    let Post : Val → SProp 𝓤 = (walk_of 𝓛 E stays c).post z in
    let κ : Lft = z.0.0.0 in let q : Share = z.0.1.0 in let Z : RattleType = param 0 B in
    let at = z.0.3.0.ref_ptr in let heap = z.0.3.0.now in let from : Ptr = z.0.3.1.0 in let s = z.0.3.1.1.0 in let al = z.0.3.1.1.1.0 in
    let t = g.dealloc_token heap in let τ : Ty = z.1 in
    let Other : Fml = flft z.0.0.1.0 z.0.1.1.0 in let Fits : Type 0 = (capped (size τ) ≡ s) × (capped (align τ) ≡ al) in
    qed 𝓛 (((‵ (flft κ q) ⊛ ‵ Other ⊛ ‵ ftrue) ⊛ ‵ (owns (types_at E.signature.params z.0.0) z.0.3 z.0.4))
    ∷ (‵ (ftok every) ⊛ raw (fact 𝓤 (z.0.0.1.0 ⊑ B.lives)) ⊛ raw (fact 𝓤 Fits) ⊛ ‵ (owned_block (right_to t) τ from)) ∷ []) ∵
    move ! (1 ∷ []) $ split3 ! $ move ! (2 ∷ []) $ split ! $ heard ! Fits (λ fits.
    in_a_block ! from (λ r. owned_block (right_to t) τ r) (fst∗ 𝓤 (never 𝓤) (sem 𝓛 (right_to t τ null_ptr))) (λ b o placed.
    let ends : (x : Bool) → Sq 𝓛 (‵ (flft κ q) ∷ ‵ (ftok every) ∷ ‵ Other ∷ ‵ (block_unless x (right_to t) τ (block_ptr b o)) ∷ []) (prop (Post (vbool x))) = λ x.
    rewrite ! 3 (λ (r : Ptr). ‵ (block_unless x (right_to t) τ r)) (sym placed) refl $ move ! (1 ∷ 3 ∷ []) $ join ! $
    feq_i ! (List Val) (vbool x ∷ []) (vbool x ∷ []) refl $ use0 𝓛 (‵ (trues 𝓛 4)) (spent 𝓛 4) $ nothing ! $ move ! (5 ∷ 0 ∷ []) $ join ! $ move ! (4 ∷ 0 ∷ []) $ join ! $ move ! (0 ∷ 1 ∷ 2 ∷ 3 ∷ []) $
    by ! (leaves 𝓛 E stays c z (vbool x) x (tt, (tt, (tt, (tt, tt)))) (tt, (tt, (tt, (tt, tt))))) in
    move ! (3 ∷ []) $ split ! $ split3 ! $ move ! (3 ∷ []) $ fsplit ! $ fsplit ! $ keep ! (1 ∷ 3 ∷ 7 ∷ 4 ∷ 6 ∷ []) $
    regoal ! (λ (us : List Val). prop (WpFn 𝓤 𝓛.H C Λ fn us Post)) (λ i. are.0.0 i ++ ((are.1.0 ∙ ap (λ (r : Ptr). ptr_val r ∷ []) placed) i ++ (are.1.1.0.0 i ++ (are.1.1.1.0.0 i ++ [])))) refl $
    enter ! C Λ fn (vptr at.0 at.1 ∷ vptr b o ∷ vint w64 s ∷ vint w64 al ∷ []) Post $
    alloc_all ! (λ l. pass_all ! refl ((tt, tt), ((tt, tt), ((tt, record { fits = are.1.1.0.1 }), ((tt, record { fits = are.1.1.1.0.1 }), tt)))) $
    let En : Env 𝓤 𝓛.H = env fn.locals l in let Then = left_block 𝓛 C Λ En (after 3 fn.body) (at_ret En Post) in
    sets ! (addr ! (through ! refl (stop !))) refl (tt, tt) $ sets ! (of_opd ! (get ! refl)) refl (tt, tt) $
    opens_shelf Z g heap at.0 at.1 ! tt (λ p n k m a fit.
    -- [the fields; the free blocks; the way back; the other token; the block]
    first ! $ blocks ! $
    sets ! (of_opd ! (load ! (through ! refl (fld ! refl (stop !))) (look_in ! 0 (sub ! 3 refl (whole !))))) refl (tt, record { fits = fit.2 }) $
    sets ! (bin ! (get ! refl) (get ! refl) tt) refl (tt, tt) $
    first ! $ branches ! (get ! refl)
    (λ _. sets ! (of_opd ! (false_lit !)) refl (tt, tt) $ shuts_shelf Z g heap at.0 at.1 ! tt p n k m a fit $
    returns_within ! Post refl (look_at ! 0 refl) $ free_all ! refl $ ends false)
    (λ same. skips ! $ exec ! C Λ En (after 3 (inside (head (after 2 fn.body)))) Then $
    sets ! (of_opd ! (load ! (through ! refl (fld ! refl (stop !))) (look_in ! 0 (sub ! 4 refl (whole !))))) refl (tt, record { fits = fit.3 }) $
    sets ! (bin ! (get ! refl) (get ! refl) tt) refl (tt, tt) $
    first ! $ branches ! (get ! refl)
    (λ _. sets ! (of_opd ! (false_lit !)) refl (tt, tt) $ shuts_shelf Z g heap at.0 at.1 ! tt p n k m a fit $
    returns_within ! Post refl (look_at ! 0 refl) $ free_all ! refl $ ends false)
    (λ lined. skips ! $ exec ! C Λ En (after 6 (inside (head (after 2 fn.body)))) Then $
    sets ! (of_opd ! (load ! (through ! refl (fld ! refl (stop !))) (look_in ! 0 (sub ! 1 refl (whole !))))) refl (tt, record { fits = fit.0 }) $
    sets ! (of_opd ! (load ! (through ! refl (fld ! refl (stop !))) (look_in ! 0 (sub ! 2 refl (whole !))))) refl (tt, record { fits = fit.1 }) $
    sets ! (bin ! (get ! refl) (get ! refl) tt) refl (tt, tt) $
    first ! $ branches ! (get ! refl)
    (λ _. sets ! (of_opd ! (false_lit !)) refl (tt, tt) $ shuts_shelf Z g heap at.0 at.1 ! tt p n k m a fit $
    returns_within ! Post refl (look_at ! 0 refl) $ free_all ! refl $ ends false)
    (λ space. let below : n < k = nleb→lt k n space in let more : n + 1 < 2 ^ 64 = omega (arith, fit.1) in let next : suc n ≡ n + 1 = omega arith in
    move ! (1 ∷ []) $ fpick ! (λ kept. move ! (4 ∷ []) $
    use1 𝓛 (‵ (froom ty_ptr b o) ⊛ raw (wand 𝓤 (𝓛.H.at full_share ty_ptr b o (ptr_val p)) (sem 𝓛 (free_block t m a (b, o) p))))
    (readies 𝓛 b o t m a p τ (fills τ m a s al kept (is_so m s same) (is_so a al lined) fits) kept) $ split ! $
    -- [room for the word; the way to a free block; the other free blocks; the fields; the way back; the other token]
    skips ! $ exec ! C Λ En (after 10 (inside (head (after 2 fn.body)))) Then $
    sets ! (of_opd ! (get ! refl)) refl (tt, tt) $
    sets ! (of_opd ! (load ! (through ! refl (fld ! refl (stop !))) (look_in ! 3 (sub ! 0 refl (whole !))))) refl ((rawptr_Lawful 𝓛).typed p _ refl).0 $
    assigns ! (of_opd ! (get ! refl)) (through ! refl (stop !)) (init ! 0 refl ((rawptr_Lawful 𝓛).typed p _ refl).0) $
    assigns ! (of_opd ! (get ! refl)) (through ! refl (fld ! refl (stop !))) (store_in ! 3 (sub ! 0 refl (whole !)) (tt, tt)) $
    sets ! (bin ! (get ! refl) (lit ! tt) (record { fits = more })) refl (tt, record { fits = more }) $
    assigns ! (of_opd ! (get ! refl)) (through ! refl (fld ! refl (stop !))) (store_in ! 3 (sub ! 1 refl (whole !)) (tt, record { fits = more })) $
    sets_last ! (of_opd ! (true_lit !)) refl (tt, tt) $
    exec ! C Λ En (after 3 fn.body) (at_ret En Post) $ sets ! (of_opd ! (get ! refl)) refl (tt, tt) $
    let Stack : ℕ × ℕ → Ptr → Fml = λ spot next. fsep (free_block t m a spot next) (stack t m a n next) in
    use2 𝓛 (‵ (free_block t m a (b, o) p)) (apply∗ 𝓤 (𝓛.H.at full_share ty_ptr b o (ptr_val p)) (sem 𝓛 (free_block t m a (b, o) p))) $ fjoin ! $
    fpack ! Ptr (Stack (b, o)) p $ fpack ! (block_ptr b o ≡ block_ptr b o) (λ _. fex Ptr (Stack (b, o))) refl $
    fpack ! (ℕ × ℕ) (λ spot. fex (block_ptr b o ≡ block_ptr spot.0 spot.1) (λ _. fex Ptr (Stack spot))) (b, o) $
    rewrite ! 0 (λ (j : ℕ). ‵ (stack t m a j (block_ptr b o))) next refl $ fpack ! (IsKept m a) (λ _. stack t m a (n + 1) (block_ptr b o)) kept $
    move ! (1 ∷ 0 ∷ 2 ∷ []) $ shuts_shelf Z g heap at.0 at.1 ! tt (block_ptr b o) (n + 1) k m a (more, fit.1, fit.2, fit.3) $
    returns ! (look_at ! 0 refl) $ free_all ! refl $ nothing ! $ move ! (1 ∷ 2 ∷ 3 ∷ 0 ∷ []) $ ends true)))))))))
