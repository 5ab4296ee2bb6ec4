-- Nothing is allocated of a new limit. Assumes `Logic`.
use Rattle.aa_watched.proofs.Walk.{◌≡◌, ℕ, List, [], ◌∷◌, refl, T, lit<, ◌++◌, leaves, proved_at, Fn, Val, vint, w64, WT, has_ty, ftrue, fsep, SProp, emp, fact, fact_i, tables, WpFn, alloc_all, pass_all, free_all, look_at, get, sets, ‵, raw, ◌⊛◌, ◌$◌, ◌∵◌, !, qed, move, use0, fjoin, prop, regoal, by, fpack, agg, lit, no_more, and_then, returns, enter, Typed, owns, types_at, nothing, walk_of, dropped, gone, trues, spent, RattleType, keep}
use Rattle.aa_watched.proofs.Noting.{noted_type, noted_val, noted_own, Fit, noted_made, within_made, zero_within}
use Rattle.aa_watched.specs.Cells.{noted_within}
use Rattle.aa_watched.specs.contracts.noted.Noted.TheInside as inside
use Rattle.aa_watched.specs.contracts.noted.Noted.new as f
use Rattle.aa_watched.proofs.noted.Noted.new.Statement.{statement}
use Rattle.aa_watched.proofs.noted.Noted.new.Code as code

pub new_spec : {M : Type 1} → statement M
new_spec 𝓤 𝓛 𝓜 𝓡 wired =
    let E = f.ended in let c = f.clauses 𝓛 𝓜.mem 𝓡.returns in let 𝓣 = tables 𝓤 𝓛.H 𝓜 𝓡 𝓡.env in let fn : Fn = code.function in
    let stays = dropped E.signature.params E.kept in
    proved_at 𝓛 E stays c 𝓜 𝓡 ((λ κs x f vs ok. gone 𝓛), tt)
    f.Key.name fn (code.unfolded 𝓤 𝓛.H 𝓜 𝓡 wired) (λ z are.
    let Post : Val → SProp 𝓤 = (walk_of 𝓛 E stays c).post z in
    let limit : ℕ = z.0.3.0 in let F : RattleType = inside.the_row in
    let v : Val = noted_val limit 0 0 in let fit : Fit limit 0 0 = (are.0.1, lit< tt, lit< tt) in
    let typed : T (has_ty noted_type v) × WT v = (tt, (record { fits = fit.0 }, (record { fits = fit.1 }, (record { fits = fit.2 }, tt)))) in
    qed 𝓛 ((‵ ftrue ⊛ ‵ (owns (types_at E.signature.params z.0.0) z.0.3 z.0.4)) ∷ ‵ ftrue ∷ []) ∵ keep ! [] $
    regoal ! (λ (us : List Val). prop (WpFn 𝓤 𝓛.H 𝓣.C 𝓣.Λ fn us Post)) (λ i. are.0.0 i ++ []) refl $
    enter ! 𝓣.C 𝓣.Λ fn (vint w64 limit ∷ []) Post $ alloc_all ! (λ l. pass_all ! refl ((tt, record { fits = fit.0 }), tt) $
    sets ! (agg ! (and_then ! (get ! refl) (and_then ! (lit ! tt) (and_then ! (lit ! tt) (no_more !))))) refl typed $
    returns ! (look_at ! 0 refl) $ free_all ! refl $
    use0 𝓛 (‵ (noted_within limit limit 0 0)) (within_made 𝓛 limit limit 0 0 (refl, zero_within limit)) $
    use0 𝓛 (‵ (noted_own limit 0 0 (v ∷ []))) (noted_made 𝓛 limit 0 0 fit) $ fjoin ! $
    fpack ! F.Denot (λ i. fsep (F.own_val i (v ∷ [])) (noted_within limit i.limit i.allocated i.most)) (record { limit = limit; allocated = 0; most = 0 }) $
    nothing ! $ fpack ! (Typed F.mir (v ∷ [])) (λ _. ftrue) (typed, tt) $ fjoin ! $
    use0 𝓛 (raw (fact 𝓤 (limit ≡ limit))) (fact_i 𝓤 (limit ≡ limit) (emp 𝓤) refl) $ use0 𝓛 (‵ (trues 𝓛 1)) (spent 𝓛 1) $ nothing ! $ move ! (0 ∷ 1 ∷ 3 ∷ 2 ∷ []) $
    by ! (leaves 𝓛 E stays c z v limit (tt, tt) (tt, tt))))
