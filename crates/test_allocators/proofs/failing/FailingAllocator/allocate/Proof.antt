-- The result is `Err`, whatever is requested. Assumes `Logic`.
use Rattle.aa_watched.proofs.Walk.{[], ◌∷◌, refl, w64, false, Err, Answer, answer_val, Answer-typed, Answer-err, proved, ftrue, flft, alloc_all, pass_all, free_all, look_at, get, sets, ‵, raw, ◌⊛◌, ◌$◌, ◌∵◌, !, qed, move, keep, use0, split, done, suffices, group, agg, lit, no_more, and_then, returns, enter, uint_vals, uint_Tells, owns, shr_vals, types_at, nothing, walk_of, ends_at, dropped, gone, trues, spent}
use Rattle.test_allocators.specs.contracts.failing.FailingAllocator.allocate as F
use Rattle.test_allocators.proofs.failing.FailingAllocator.allocate.Statement.{statement}
use Rattle.test_allocators.proofs.failing.FailingAllocator.allocate.Code as code

pub allocate_spec : {M : Type 1} → statement M
allocate_spec 𝓤 𝓛 𝓜 𝓡 wired =
    let E = F.ended in let hs = dropped E.signature.params E.kept in let c = F.clauses 𝓛 𝓜.mem 𝓡.returns in let W = walk_of 𝓛 E hs c in
    proved 𝓛 E hs c 𝓜 𝓡 ((λ κs x f vs ok. gone 𝓛), ((λ κs x f vs ok. gone 𝓛), ((λ κs x f vs ok. gone 𝓛), tt)))
    F.Key.name code.function (code.unfolded 𝓤 𝓛.H 𝓜 𝓡 wired)
    (λ κs. (shr_vals, (uint_vals w64, (uint_vals w64, tt)))) (λ κs. ((λ r vs is. is.0), (uint_Tells w64, (uint_Tells w64, tt)))) (λ κs qs bounds a τ are.
    let y : W.Ghost = ((κs, qs, bounds, a, (shr_vals a.0, (uint_vals w64 a.1.0, (uint_vals w64 a.1.1.0, tt)))), τ) in
    let no : Answer.Denot = Err (record {}) in let v = answer_val false 0 0 in
    qed 𝓛 (((‵ (flft κs.0 qs.0) ⊛ ‵ ftrue) ⊛ ‵ (owns (types_at E.signature.params κs) a y.0.4)) ∷ raw ((c κs a).requires τ) ∷ []) ∵ split ! $ keep ! (0 ∷ []) $
    enter ! _ _ _ _ _ $ alloc_all ! (λ l. pass_all ! refl ((tt, tt), ((tt, record { fits = are.1.0.1 }), ((tt, record { fits = are.1.1.0.1 }), tt))) $
    sets ! (agg ! (no_more !)) refl (tt, tt) $ sets ! (agg ! (and_then ! (lit ! tt) (and_then ! (get ! refl) (no_more !)))) refl (Answer-typed false 0 0) $
    returns ! (look_at ! 0 refl) $ free_all ! refl $
    -- [the token]
    suffices ! _ (ends_at 𝓛 E hs c y v no (tt, (tt, (tt, tt))) (tt, (tt, (tt, tt)))) $
    nothing ! $ use0 𝓛 (‵ (Answer.own_val no (v ∷ []))) (Answer-err 𝓛) $ use0 𝓛 (‵ (trues 𝓛 3)) (spent 𝓛 3) $ move ! (3 ∷ 0 ∷ 1 ∷ []) $ group ! 3 $ done !))
