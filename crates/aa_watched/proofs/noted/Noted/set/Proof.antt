-- Both numbers are written. Assumes `Logic`.
use Rattle.aa_watched.proofs.Walk.{ℕ, List, [], ◌∷◌, refl, w64, ◌++◌, after, leaves, Fn, Val, vunit, vint, vptr, Lft, Share, ftrue, flft, ftok, SProp, every, fact, Env, WpFn, alloc_all, pass_all, free_all, look_at, get, through, sets, env, ‵, raw, ◌⊛◌, ◌$◌, ◌∵◌, !, qed, move, keep, use0, split, join, fsplit, feq_i, prop, at_ret, regoal, by, whole, store_in, sub, stop, fld, addr, of_opd, first, exec, returns, enter, assigns, blocks, unit_lit, owns, types_at, nothing, heard, walk_of, dropped, gone, trues, spent}
use types.Run.{assigns_last}
use Rattle.aa_watched.proofs.Alone.{holding_token, proved_alone}
use Rattle.aa_watched.proofs.Noting.{opens_noted, shuts_noted}
use Rattle.aa_watched.specs.Cells.{IsWithin}
use Rattle.aa_watched.specs.contracts.noted.Noted.set as f
use Rattle.aa_watched.proofs.noted.Noted.set.Statement.{statement}
use Rattle.aa_watched.proofs.noted.Noted.set.Code as code

pub set_spec : {M : Type 1} → statement M
unfolding code.code
set_spec 𝓤 𝓛 𝓜 𝓡 wired =
    let E = f.ended in let c₀ = f.clauses 𝓛 𝓜.mem 𝓡.returns in let fn : Fn = code.function in
    let stays = dropped E.signature.params E.kept in let c = holding_token 𝓛 E stays c₀ in
    proved_alone 𝓛 E stays c₀ 𝓜 𝓡 ((λ κs x f vs ok. gone 𝓛), ((λ κs x f vs ok. gone 𝓛), ((λ κs x f vs ok. gone 𝓛), tt)))
    f.Key.name fn (wired.0.0 f.Key.name refl) (λ C Λ z are.
    let Post : Val → SProp 𝓤 = (walk_of 𝓛 E stays c).post z in
    let κ : Lft = z.0.0.0 in let q : Share = z.0.1.0 in
    let at = z.0.3.0.ref_ptr in let limit : ℕ = z.0.3.0.now in let n = z.0.3.1.0 in let k = z.0.3.1.1.0 in
    let n_fits = are.1.0.1 in let k_fits = are.1.1.0.1 in
    qed 𝓛 (((‵ (flft κ q) ⊛ ‵ ftrue) ⊛ ‵ (owns (types_at E.signature.params z.0.0) z.0.3 z.0.4)) ∷ (‵ (ftok every) ⊛ raw (fact 𝓤 (IsWithin limit n k))) ∷ []) ∵
    move ! (1 ∷ []) $ split ! $ move ! (1 ∷ []) $ heard ! (IsWithin limit n k) (λ within.
    move ! (1 ∷ []) $ split ! $ split ! $ move ! (2 ∷ []) $ fsplit ! $ fsplit ! $ keep ! (1 ∷ 3 ∷ 5 ∷ []) $
    regoal ! (λ (us : List Val). prop (WpFn 𝓤 𝓛.H C Λ fn us Post)) (λ i. are.0.0 i ++ (are.1.0.0 i ++ (are.1.1.0.0 i ++ []))) refl $
    enter ! C Λ fn (vptr at.0 at.1 ∷ vint w64 n ∷ vint w64 k ∷ []) Post $
    alloc_all ! (λ l. pass_all ! refl ((tt, tt), ((tt, record { fits = n_fits }), ((tt, record { fits = k_fits }), tt))) $
    let En : Env 𝓤 𝓛.H = env fn.locals l in
    sets ! (addr ! (through ! refl (stop !))) refl (tt, tt) $ sets ! (of_opd ! (get ! refl)) refl (tt, tt) $
    opens_noted limit at.0 at.1 ! tt (λ l a m fit kept.
    -- [the fields; the way back]
    first ! $ blocks ! $
    assigns ! (of_opd ! (get ! refl)) (through ! refl (fld ! refl (stop !))) (store_in ! 0 (sub ! 1 refl (whole !)) (tt, record { fits = n_fits })) $
    assigns_last ! (of_opd ! (get ! refl)) (through ! refl (fld ! refl (stop !))) (store_in ! 0 (sub ! 2 refl (whole !)) (tt, record { fits = k_fits })) $
    exec ! C Λ En (after 3 fn.body) (at_ret En Post) $ sets ! (of_opd ! (unit_lit !)) refl (tt, tt) $
    shuts_noted limit at.0 at.1 ! tt l n k (fit.0, n_fits, k_fits) (kept.0, within) $ returns ! (look_at ! 0 refl) $ free_all ! refl $
    -- [its token; the thread's]
    feq_i ! (List Val) (vunit ∷ []) (vunit ∷ []) refl $ nothing ! $ move ! (3 ∷ 0 ∷ []) $ join ! $ use0 𝓛 (‵ (trues 𝓛 3)) (spent 𝓛 3) $ nothing ! $
    move ! (4 ∷ 0 ∷ []) $ join ! $ move ! (0 ∷ 1 ∷ 3 ∷ []) $
    by ! (leaves 𝓛 E stays c z vunit tt (tt, (tt, (tt, tt))) (tt, (tt, (tt, tt))))))))
