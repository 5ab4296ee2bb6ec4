-- The block on top is unlinked: its word says which one is the next. Assumes `Logic`.
use Rattle.aa_allocators.proofs.Shelving.{◌≡◌, ℕ, ◌<◌, ◌^◌, List, [], ◌∷◌, refl, w64, true, false, Ok, Err, arith, suc, ◌++◌, ◌-◌, block_if_ok, owned_block, full_share, Answer, answer_val, Answer-typed, Answer-Ok, Answer-err, after, head, inside, is_not, is_so, leaves, inst_fn, Fn, Ty, ty_ptr, Val, vint, vptr, Fml, Lft, Share, ftrue, flft, fat, ftok, SProp, apply∗, wand, every, ◌⊑◌, fact, size, align, capped, Env, WpFn, alloc_all, pass_all, free_all, look_at, get, through, sets, sets_last, env, ‵, raw, ◌⊛◌, ◌$◌, ◌∵◌, !, qed, move, keep, use0, use1, use2, split, split3, join, fsplit, prop, at_ret, Sq, regoal, by, fpack, fpick, rewrite, sem, agg, whole, look_in, store_in, sub, stop, fld, addr, lit, no_more, and_then, of_opd, first, branches, skips, exec, returns, returns_within, enter, assigns, bin, blocks, load, look, param, RattleType, owns, Ptr, block_ptr, ptr_val, rawptr_Lawful, types_at, nothing, heard, walk_of, dropped, gone, trues, spent, IsKept, right_to, stack, generics, fields, opens_shelf, shuts_shelf, fills, holding_token, proved_alone, left_block, regrants}
use Rattle.aa_allocators.specs.contracts.shelf.Shelf.take as taken
use Rattle.aa_allocators.proofs.shelf.Shelf.take.Statement.{statement}
use Rattle.aa_allocators.proofs.shelf.Shelf.take.Code as code

pub take_spec : {M : Type 1} → statement M
unfolding code.code
take_spec 𝓤 𝓛 𝓜 𝓡 wired B L g d dd met md =
    let E = taken.ended B g d dd in let c₀ = taken.clauses B g d dd 𝓛 𝓜.mem 𝓡.returns in
    let fn : Fn = inst_fn (generics B d dd) code.function in
    let stays = dropped E.signature.params E.kept in
    let c = holding_token 𝓛 E stays c₀ in
    proved_alone 𝓛 E stays c₀ 𝓜 𝓡 ((λ κs x f vs ok. gone 𝓛), ((λ κs x f vs ok. gone 𝓛), ((λ κs x f vs ok. gone 𝓛), tt)))
    (taken.Key.name (generics B d dd)) fn (wired.0.0 (taken.Key.name (generics B d dd)) refl) (λ C Λ z are.
    let Post : Val → SProp 𝓤 = (walk_of 𝓛 E stays c).post z in
    let κ : Lft = z.0.0.0 in let q : Share = z.0.1.0 in let Z : RattleType = param 0 B in
    let at = z.0.3.0.ref_ptr in let heap = z.0.3.0.now in let t = g.dealloc_token heap in let τ : Ty = z.1 in let s = z.0.3.1.0 in let al = z.0.3.1.1.0 in
    let Other : Fml = flft z.0.0.1.0 z.0.1.1.0 in let Fits : Type 0 = (capped (size τ) ≡ s) × (capped (align τ) ≡ al) in
    let ends : (x : Answer.Denot) (v : Val) → Sq 𝓛 (‵ (flft κ q) ∷ ‵ (ftok every) ∷ ‵ Other ∷ ‵ (Answer.own_val x (v ∷ [])) ∷ ‵ (block_if_ok (right_to t) τ x) ∷ []) (prop (Post v)) = λ x v.
    move ! (1 ∷ 4 ∷ []) $ join ! $ use0 𝓛 (‵ (trues 𝓛 3)) (spent 𝓛 3) $ nothing ! $ move ! (4 ∷ 0 ∷ []) $ join ! $ move ! (3 ∷ 0 ∷ []) $ join ! $ move ! (0 ∷ 1 ∷ 3 ∷ []) $
    by ! (leaves 𝓛 E stays c z v x (tt, (tt, (tt, tt))) (tt, (tt, (tt, tt)))) in
    let none : Sq 𝓛 (‵ (flft κ q) ∷ ‵ (ftok every) ∷ ‵ Other ∷ []) (prop (Post (answer_val false 0 0))) =
    use0 𝓛 (‵ (Answer.own_val (Err (record {})) (answer_val false 0 0 ∷ []))) (Answer-err 𝓛) $ nothing ! $ move ! (2 ∷ 3 ∷ 4 ∷ 1 ∷ 0 ∷ []) $ ends (Err (record {})) (answer_val false 0 0) in
    qed 𝓛 (((‵ (flft κ q) ⊛ ‵ Other ⊛ ‵ ftrue) ⊛ ‵ (owns (types_at E.signature.params z.0.0) z.0.3 z.0.4)) ∷ (‵ (ftok every) ⊛ raw (fact 𝓤 (z.0.0.1.0 ⊑ B.lives)) ⊛ raw (fact 𝓤 Fits)) ∷ []) ∵
    move ! (1 ∷ []) $ split3 ! $ move ! (2 ∷ []) $ heard ! Fits (λ fits. move ! (2 ∷ []) $ split ! $ split3 ! $ move ! (3 ∷ []) $ fsplit ! $ fsplit ! $ keep ! (1 ∷ 3 ∷ 6 ∷ 4 ∷ []) $
    regoal ! (λ (us : List Val). prop (WpFn 𝓤 𝓛.H C Λ fn us Post)) (λ i. are.0.0 i ++ (are.1.0.0 i ++ (are.1.1.0.0 i ++ []))) refl $
    enter ! C Λ fn (vptr at.0 at.1 ∷ vint w64 s ∷ vint w64 al ∷ []) Post $
    alloc_all ! (λ l. pass_all ! refl ((tt, tt), ((tt, record { fits = are.1.0.1 }), ((tt, record { fits = are.1.1.0.1 }), tt))) $
    let En : Env 𝓤 𝓛.H = env fn.locals l in let Then = left_block 𝓛 C Λ En (after 3 fn.body) (at_ret En Post) in
    sets ! (addr ! (through ! refl (stop !))) refl (tt, tt) $ sets ! (of_opd ! (get ! refl)) refl (tt, tt) $
    opens_shelf Z g heap at.0 at.1 ! tt (λ p n k m a fit.
    -- [the fields; the free blocks; the way back; the other token]
    first ! $ blocks ! $
    sets ! (of_opd ! (load ! (through ! refl (fld ! refl (stop !))) (look_in ! 0 (sub ! 3 refl (whole !))))) refl (tt, record { fits = fit.2 }) $
    sets ! (bin ! (get ! refl) (get ! refl) tt) refl (tt, tt) $
    first ! $ branches ! (get ! refl)
    (λ _. sets ! (agg ! (no_more !)) refl (tt, tt) $ sets ! (agg ! (and_then ! (lit ! tt) (and_then ! (get ! refl) (no_more !)))) refl (Answer-typed false 0 0) $
    shuts_shelf Z g heap at.0 at.1 ! tt p n k m a fit $ returns_within ! Post refl (look_at ! 0 refl) $ free_all ! refl $ none)
    (λ same. skips ! $ exec ! C Λ En (after 3 (inside (head (after 2 fn.body)))) Then $
    sets ! (of_opd ! (load ! (through ! refl (fld ! refl (stop !))) (look_in ! 0 (sub ! 4 refl (whole !))))) refl (tt, record { fits = fit.3 }) $
    sets ! (bin ! (get ! refl) (get ! refl) tt) refl (tt, tt) $
    first ! $ branches ! (get ! refl)
    (λ _. sets ! (agg ! (no_more !)) refl (tt, tt) $ sets ! (agg ! (and_then ! (lit ! tt) (and_then ! (get ! refl) (no_more !)))) refl (Answer-typed false 0 0) $
    shuts_shelf Z g heap at.0 at.1 ! tt p n k m a fit $ returns_within ! Post refl (look_at ! 0 refl) $ free_all ! refl $ none)
    (λ lined. skips ! $ exec ! C Λ En (after 6 (inside (head (after 2 fn.body)))) Then $
    sets ! (of_opd ! (load ! (through ! refl (fld ! refl (stop !))) (look_in ! 0 (sub ! 1 refl (whole !))))) refl (tt, record { fits = fit.0 }) $
    sets ! (bin ! (get ! refl) (lit ! tt) tt) refl (tt, tt) $
    first ! $ branches ! (get ! refl)
    (λ _. sets ! (agg ! (no_more !)) refl (tt, tt) $ sets ! (agg ! (and_then ! (lit ! tt) (and_then ! (get ! refl) (no_more !)))) refl (Answer-typed false 0 0) $
    shuts_shelf Z g heap at.0 at.1 ! tt p n k m a fit $ returns_within ! Post refl (look_at ! 0 refl) $ free_all ! refl $ none)
    (λ some. let apart = is_not n 0 some in let left : n ≡ suc (n - 1) = omega arith in let fewer : n - 1 < 2 ^ 64 = omega (arith, fit.0) in
    move ! (1 ∷ []) $ fpick ! (λ kept. rewrite ! 0 (λ (j : ℕ). ‵ (stack t m a j p)) left refl $ fpick ! (λ spot. fpick ! (λ here. fpick ! (λ next. fsplit ! $
    let b = spot.0 in let o = spot.1 in let Word : Fml = fat full_share ty_ptr b o (ptr_val next) in let Block : Fml = owned_block (right_to t) τ (block_ptr b o) in
    use1 𝓛 (‵ Word ⊛ raw (wand 𝓤 (sem 𝓛 Word) (sem 𝓛 Block))) (regrants 𝓛 b o t m a next τ (fills τ m a s al kept (is_so m s same) (is_so a al lined) fits)) $ split ! $
    -- [the word; the way to the block; the other free blocks; the fields; the way back; the other token]
    rewrite ! 3 (λ (r : Ptr). ‵ (fields Z g heap at.0 at.1 r n k m a)) here refl $
    skips ! $ exec ! C Λ En (after 9 (inside (head (after 2 fn.body)))) Then $
    sets ! (of_opd ! (load ! (through ! refl (fld ! refl (stop !))) (look_in ! 3 (sub ! 0 refl (whole !))))) refl (tt, tt) $
    sets ! (of_opd ! (get ! refl)) refl (tt, tt) $
    sets ! (of_opd ! (load ! (through ! refl (stop !)) (look ! 0 refl))) refl ((rawptr_Lawful 𝓛).typed next _ refl).0 $
    assigns ! (of_opd ! (get ! refl)) (through ! refl (fld ! refl (stop !))) (store_in ! 3 (sub ! 0 refl (whole !)) ((rawptr_Lawful 𝓛).typed next _ refl).0) $
    sets ! (bin ! (get ! refl) (lit ! tt) (omega arith)) refl (tt, record { fits = fewer }) $
    assigns ! (of_opd ! (get ! refl)) (through ! refl (fld ! refl (stop !))) (store_in ! 3 (sub ! 1 refl (whole !)) (tt, record { fits = fewer })) $
    sets_last ! (agg ! (and_then ! (lit ! tt) (and_then ! (get ! refl) (no_more !)))) refl (Answer-typed true b o) $
    exec ! C Λ En (after 3 fn.body) (at_ret En Post) $ sets ! (of_opd ! (get ! refl)) refl (Answer-typed true b o) $
    use2 𝓛 (‵ Block) (apply∗ 𝓤 (sem 𝓛 Word) (sem 𝓛 Block)) $
    move ! (1 ∷ []) $ fpack ! (IsKept m a) (λ _. stack t m a (n - 1) next) kept $ move ! (2 ∷ 0 ∷ 3 ∷ []) $
    shuts_shelf Z g heap at.0 at.1 ! tt next (n - 1) k m a (fewer, fit.1, fit.2, fit.3) $ returns ! (look_at ! 0 refl) $ free_all ! refl $
    use0 𝓛 (‵ (Answer.own_val (Ok (block_ptr b o)) (answer_val true b o ∷ []))) (Answer-Ok 𝓛 b o) $
    move ! (1 ∷ 2 ∷ 4 ∷ 0 ∷ 3 ∷ []) $ ends (Ok (block_ptr b o)) (answer_val true b o))))))))))))
