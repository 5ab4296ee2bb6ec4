-- The number is read, and nothing changes. Assumes `Logic`.
use Rattle.aa_allocators.proofs.Shelving.{◌^◌, List, [], ◌∷◌, refl, w64, ◌++◌, after, leaves, inst_fn, Fn, Val, vint, vptr, Fml, Lft, Share, ftrue, flft, ftok, SProp, every, ◌⊑◌, fact, Env, WpFn, alloc_all, pass_all, free_all, look_at, get, through, sets, sets_last, env, ‵, raw, ◌⊛◌, ◌$◌, ◌∵◌, !, qed, move, keep, use0, split, split3, join, fsplit, fjoin, feq_i, prop, at_ret, regoal, by, look_in, sub, whole, stop, fld, addr, of_opd, first, exec, returns, enter, blocks, load, param, RattleType, owns, types_at, nothing, walk_of, dropped, gone, trues, spent, generics, opens_shelf, shuts_shelf, holding_token, proved_alone}
use types.Kit.{flt_i}
use Rattle.aa_allocators.specs.contracts.shelf.Shelf.count as counted
use Rattle.aa_allocators.proofs.shelf.Shelf.count.Statement.{statement}
use Rattle.aa_allocators.proofs.shelf.Shelf.count.Code as code

pub count_spec : {M : Type 1} → statement M
unfolding code.code
count_spec 𝓤 𝓛 𝓜 𝓡 wired B L g d dd met md =
    let E = counted.ended B g d dd in let c₀ = counted.clauses B g d dd 𝓛 𝓜.mem 𝓡.returns in
    let fn : Fn = inst_fn (generics B d dd) code.function in
    let stays = dropped E.signature.params E.kept in
    let c = holding_token 𝓛 E stays c₀ in
    proved_alone 𝓛 E stays c₀ 𝓜 𝓡 ((λ κs x f vs ok. gone 𝓛), tt)
    (counted.Key.name (generics B d dd)) fn (wired.0.0 (counted.Key.name (generics B d dd)) refl) (λ C Λ z are.
    let Post : Val → SProp 𝓤 = (walk_of 𝓛 E stays c).post z in
    let κ : Lft = z.0.0.0 in let q : Share = z.0.1.0 in let Z : RattleType = param 0 B in
    let at = z.0.3.0.ref_ptr in let heap = z.0.3.0.now in
    let Other : Fml = flft z.0.0.1.0 z.0.1.1.0 in
    qed 𝓛 (((‵ (flft κ q) ⊛ ‵ Other ⊛ ‵ ftrue) ⊛ ‵ (owns (types_at E.signature.params z.0.0) z.0.3 z.0.4)) ∷ (‵ (ftok every) ⊛ raw (fact 𝓤 (z.0.0.1.0 ⊑ B.lives)) ⊛ ‵ ftrue) ∷ []) ∵
    move ! (1 ∷ []) $ split3 ! $ move ! (3 ∷ []) $ split ! $ split3 ! $ move ! (3 ∷ []) $ fsplit ! $ fsplit ! $ keep ! (1 ∷ 3 ∷ 6 ∷ 4 ∷ []) $
    regoal ! (λ (us : List Val). prop (WpFn 𝓤 𝓛.H C Λ fn us Post)) (λ i. are.0.0 i ++ []) refl $
    enter ! C Λ fn (vptr at.0 at.1 ∷ []) Post $ alloc_all ! (λ l. pass_all ! refl ((tt, tt), tt) $
    let En : Env 𝓤 𝓛.H = env fn.locals l in
    sets ! (addr ! (through ! refl (stop !))) refl (tt, tt) $ sets ! (of_opd ! (get ! refl)) refl (tt, tt) $
    opens_shelf Z g heap at.0 at.1 ! tt (λ p n k m a fit.
    -- [the fields; the free blocks; the way back; the other token]
    first ! $ blocks ! $
    sets_last ! (of_opd ! (load ! (through ! refl (fld ! refl (stop !))) (look_in ! 0 (sub ! 1 refl (whole !))))) refl (tt, record { fits = fit.0 }) $
    exec ! C Λ En (after 3 fn.body) (at_ret En Post) $ sets ! (of_opd ! (get ! refl)) refl (tt, record { fits = fit.0 }) $
    shuts_shelf Z g heap at.0 at.1 ! tt p n k m a fit $ returns ! (look_at ! 0 refl) $ free_all ! refl $
    flt_i ! n (2 ^ 64) fit.0 $ feq_i ! (List Val) (vint w64 n ∷ []) (vint w64 n ∷ []) refl $ fjoin ! $ nothing ! $
    move ! (3 ∷ 0 ∷ []) $ join ! $ use0 𝓛 (‵ (trues 𝓛 1)) (spent 𝓛 1) $ nothing ! $ move ! (5 ∷ 0 ∷ []) $ join ! $ move ! (4 ∷ 0 ∷ []) $ join ! $ move ! (0 ∷ 1 ∷ 3 ∷ []) $
    by ! (leaves 𝓛 E stays c z (vint w64 n) n (tt, tt) (tt, tt)))))
