-- The numbers are read, and nothing changes. Assumes `Logic`.
use Rattle.aa_watched.proofs.Walk.{◌≡◌, ℕ, List, [], ◌∷◌, refl, T, ◌++◌, after, leaves, Fn, Val, WT, has_ty, vptr, Lft, Share, ftrue, flft, ftok, SProp, emp, every, fact, fact_i, Env, WpFn, alloc_all, pass_all, free_all, look_at, get, through, sets, sets_last, env, ‵, raw, ◌⊛◌, ◌$◌, ◌∵◌, !, qed, move, keep, use0, split, join, fsplit, prop, at_ret, regoal, by, agg, and_then, no_more, load, look_in, whole, sub, stop, fld, addr, of_opd, first, exec, returns, enter, blocks, owns, types_at, nothing, walk_of, dropped, gone, trues, spent}
use Rattle.aa_watched.proofs.Alone.{holding_token, proved_alone}
use Rattle.aa_watched.proofs.Noting.{noted_made, noted_type, noted_val, opens_noted, shuts_noted}
use Rattle.aa_watched.specs.Cells.{IsWithin}
use Rattle.aa_watched.specs.contracts.noted.Numbers as numbers
use Rattle.aa_watched.specs.contracts.noted.Noted.get as f
use Rattle.aa_watched.proofs.noted.Noted.get.Statement.{statement}
use Rattle.aa_watched.proofs.noted.Noted.get.Code as code

pub get_spec : {M : Type 1} → statement M
unfolding code.code
get_spec 𝓤 𝓛 𝓜 𝓡 wired =
    let E = f.ended in let c₀ = f.clauses 𝓛 𝓜.mem 𝓡.returns in let fn : Fn = code.function in
    let stays = dropped E.signature.params E.kept in let c = holding_token 𝓛 E stays c₀ in
    proved_alone 𝓛 E stays c₀ 𝓜 𝓡 ((λ κs x f vs ok. gone 𝓛), tt)
    f.Key.name fn (wired.0.0 f.Key.name refl) (λ C Λ z are.
    let Post : Val → SProp 𝓤 = (walk_of 𝓛 E stays c).post z in
    let κ : Lft = z.0.0.0 in let q : Share = z.0.1.0 in
    let at = z.0.3.0.ref_ptr in let limit : ℕ = z.0.3.0.now in
    qed 𝓛 (((‵ (flft κ q) ⊛ ‵ ftrue) ⊛ ‵ (owns (types_at E.signature.params z.0.0) z.0.3 z.0.4)) ∷ (‵ (ftok every) ⊛ ‵ ftrue) ∷ []) ∵
    move ! (1 ∷ []) $ split ! $ move ! (2 ∷ []) $ split ! $ split ! $ move ! (2 ∷ []) $ fsplit ! $ fsplit ! $ keep ! (1 ∷ 3 ∷ 5 ∷ []) $
    regoal ! (λ (us : List Val). prop (WpFn 𝓤 𝓛.H C Λ fn us Post)) (λ i. are.0.0 i ++ []) refl $
    enter ! C Λ fn (vptr at.0 at.1 ∷ []) Post $
    alloc_all ! (λ l. pass_all ! refl ((tt, tt), tt) $
    let En : Env 𝓤 𝓛.H = env fn.locals l in
    sets ! (addr ! (through ! refl (stop !))) refl (tt, tt) $ sets ! (of_opd ! (get ! refl)) refl (tt, tt) $
    opens_noted limit at.0 at.1 ! tt (λ l a m fit kept.
    let v : Val = noted_val l a m in let r : numbers.the_row.Denot = record { limit = l; allocated = a; most = m } in
    let typed : T (has_ty noted_type v) × WT v = (tt, (record { fits = fit.0 }, (record { fits = fit.1 }, (record { fits = fit.2 }, tt)))) in
    -- [the fields; the way back]
    first ! $ blocks ! $
    sets ! (of_opd ! (load ! (through ! refl (fld ! refl (stop !))) (look_in ! 0 (sub ! 0 refl (whole !))))) refl (tt, record { fits = fit.0 }) $
    sets ! (of_opd ! (load ! (through ! refl (fld ! refl (stop !))) (look_in ! 0 (sub ! 1 refl (whole !))))) refl (tt, record { fits = fit.1 }) $
    sets ! (of_opd ! (load ! (through ! refl (fld ! refl (stop !))) (look_in ! 0 (sub ! 2 refl (whole !))))) refl (tt, record { fits = fit.2 }) $
    sets_last ! (agg ! (and_then ! (get ! refl) (and_then ! (get ! refl) (and_then ! (get ! refl) (no_more !))))) refl typed $
    exec ! C Λ En (after 3 fn.body) (at_ret En Post) $ sets ! (of_opd ! (get ! refl)) refl typed $
    shuts_noted limit at.0 at.1 ! tt l a m fit kept $ returns ! (look_at ! 0 refl) $ free_all ! refl $
    -- [its token; the thread's]
    use0 𝓛 (‵ (numbers.the_row.own_val r (v ∷ []))) (noted_made 𝓛 l a m fit) $
    use0 𝓛 (raw (fact 𝓤 (IsWithin limit a m))) (fact_i 𝓤 (IsWithin limit a m) (emp 𝓤) kept.1) $
    use0 𝓛 (raw (fact 𝓤 (l ≡ limit))) (fact_i 𝓤 (l ≡ limit) (emp 𝓤) kept.0) $ join ! $ move ! (3 ∷ 0 ∷ []) $ join ! $
    use0 𝓛 (‵ (trues 𝓛 1)) (spent 𝓛 1) $ nothing ! $ move ! (4 ∷ 0 ∷ []) $ join ! $ move ! (0 ∷ 1 ∷ 3 ∷ []) $
    by ! (leaves 𝓛 E stays c z v r (tt, tt) (tt, tt)))))
