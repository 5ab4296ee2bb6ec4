-- The word is written at its place. Assumes `Logic`.
use Rattle.aa_allocators.proofs.Suffixing.{List, [], ◌∷◌, refl, w64, proved, Val, vunit, vint, id⊢, tables, WpFn, alloc_all, pass_all, free_all, look_at, get, through, sets, ‵, raw, ◌$◌, ◌∵◌, !, qed, drop, use0, feq_i, done, prop, suffices, group, regoal, stop, of_opd, returns, enter, unit_lit, uint_vals, uint_Tells, Ptr, block_ptr, ptr_val, in_a_block, rawptr_vals, rawptr_Tells, nothing, walk_of, ends_at, dropped, gone, trues, spent, bin, assigns, init, word_room}
use Rattle.aa_allocators.specs.contracts.suffix.write_word as F
use Rattle.aa_allocators.proofs.suffix.write_word.Statement.{statement}
use Rattle.aa_allocators.proofs.suffix.write_word.Code as code
use denote.Triple.Entry.{on_entry}

pub write_word_spec : {M : Type 1} → statement M
write_word_spec 𝓤 𝓛 𝓜 𝓡 wired =
    let E = F.ended in let c = F.clauses 𝓛 𝓜.mem 𝓡.returns in let hs = dropped E.signature.params E.kept in
    let Wk = walk_of 𝓛 E hs c in let 𝓣 = tables 𝓤 𝓛.H 𝓜 𝓡 𝓡.env in
    proved 𝓛 E hs c 𝓜 𝓡 ((λ κs x f vs ok. gone 𝓛), ((λ κs x f vs ok. gone 𝓛), ((λ κs x f vs ok. gone 𝓛), tt))) F.Key.name code.function (code.unfolded 𝓤 𝓛.H 𝓜 𝓡 wired)
    (λ κs. (rawptr_vals, (uint_vals w64, (uint_vals w64, tt)))) (λ κs. (rawptr_Tells, (uint_Tells w64, (uint_Tells w64, tt)))) (λ κs qs bounds a _ are.
    let at = a.1.0 in let w = a.1.1.0 in let at_fits = are.1.0.1 in let w_fits = are.1.1.0.1 in
    let y : Ptr → Wk.Ghost = λ p. ((κs, qs, bounds, (p, (at, (w, tt))), (rawptr_vals p, (uint_vals w64 at, (uint_vals w64 w, tt)))), tt) in
    qed 𝓛 (raw (on_entry 𝓛 F.signature κs qs a (y a.0).0.4) ∷ ‵ (word_room a.0 at) ∷ []) ∵ drop ! $
    in_a_block ! a.0 (λ p. word_room p at) (id⊢ 𝓤 _) (λ b o e.
    regoal ! (λ (p : Ptr). prop (WpFn 𝓤 𝓛.H 𝓣.C 𝓣.Λ code.function (ptr_val p ∷ vint w64 at ∷ vint w64 w ∷ []) (Wk.post (y p)))) e refl $
    enter ! _ _ _ _ _ $ alloc_all ! (λ l. pass_all ! refl ((tt, tt), ((tt, record { fits = at_fits }), ((tt, record { fits = w_fits }), tt))) $
    -- [room for the word]
    sets ! (bin ! (get ! refl) (get ! refl) tt) refl (tt, tt) $ sets ! (of_opd ! (get ! refl)) refl (tt, tt) $
    assigns ! (of_opd ! (get ! refl)) (through ! refl (stop !)) (init ! 0 refl (tt, record { fits = w_fits })) $
    sets ! (of_opd ! (unit_lit !)) refl (tt, tt) $ returns ! (look_at ! 0 refl) $ free_all ! refl $
    suffices ! _ (ends_at 𝓛 E hs c (y (block_ptr b o)) vunit tt (tt, (tt, (tt, tt))) (tt, (tt, (tt, tt)))) $
    feq_i ! (List Val) (vunit ∷ []) (vunit ∷ []) refl $ use0 𝓛 (‵ (trues 𝓛 3)) (spent 𝓛 3) $ nothing ! $ group ! 3 $ done !)))
