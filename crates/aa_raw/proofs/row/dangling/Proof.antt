-- Places of no bytes, at the address of a local of no bytes. Assumes `Logic`.
use Rattle.aa_raw.proofs.{ !, Al, Both, El, Goes-dropped, IsCapacity, IsGood as Good, None, R, RefOf, Spot, Stays, Val, Vals, [], addr, agg, alloc_all, and_then, block_args as args, block_ptr, done, each, ends_at, enter, fact, fjoin, flft, free_all, free_row, from, ftrue, get, heard, inst_fn, keep, layout, look_at, lose as drop, mark, move, named, new_pair, no_more, nothing, of_opd, owns, pair_made, pair_val, param, pass_all, plain, proved, qed, raw, refl, replicate, returns, rewrite, says, sets, shr_Tells, shr_vals, split, stay_dropped, stop, suffices, sym, sz, token, token_for, types_at, uint_Tells, uint_vals, use0, usize, w64, walk_of, word, yes, ‵, ℕ, ◌$◌, ◌*◌, ◌∵◌, ◌∷◌, ◌≡◌, ◌⊑◌, ◌⊛◌}
use Rattle.aa_raw.specs.contracts.row.dangling as f
use Rattle.aa_raw.proofs.row.dangling.Code as code

pub dangling_spec : {M : Type 1} → Rattle.aa_raw.proofs.row.dangling.Statement.statement M
dangling_spec 𝓤 𝓛 𝓜 𝓡 wired X W LX LW g dict dd met md =
    let E : El = record { row = X; laws = LX } in
    let Z : Al = record { row = W; laws = LW; g = g; d = dict; drops = dd } in
    let key = args (record { row = X; laws = LX }) Z in
    let stayed : Stays (f.ended E.row Z.row Z.g Z.d Z.drops).signature.params
    (f.ended E.row Z.row Z.g Z.d Z.drops).kept = (
      stay_dropped (RefOf (0 ∷ []) tt (plain (λ _. param 1 Z.row)) (λ _. tt)) yes,
      (stay_dropped (plain (λ _. usize)) yes, tt),
    ) in
    let T = f.ended X W g dict dd in let c = f.clauses X W g dict dd 𝓛 𝓜.mem 𝓡.returns in
    let e = inst_fn key code.function in let Wk = walk_of 𝓛 T stayed c in
    proved 𝓛 T stayed c 𝓜 𝓡 (
      Goes-dropped 𝓛 3 (RefOf (0 ∷ []) tt (plain (λ _. param 1 W)) (λ _. tt)) yes
          (λ κs x w. refl),
      (Goes-dropped 𝓛 3 (plain (λ _. usize)) yes (λ κs x w. refl), tt),
    )
    (f.Key.name key) e (code.unfolded 𝓤 𝓛.H 𝓜 𝓡 wired (X, (W, tt)) dict dd)
    (λ κs. (shr_vals, (uint_vals w64, tt)))
    (λ κs. (shr_Tells (named 0) κs.0 (param 1 W), (uint_Tells w64, tt)))
    (λ κs qs bounds a none are.
    let h = a.0.now in let n = a.1.0 in
    let vss : Vals T.signature κs = (shr_vals a.0, (uint_vals w64 n, tt)) in
    let y : Wk.Ghost = ((κs, qs, bounds, a, vss), tt) in
    let Ok : Type 0 = IsCapacity (R E) n × (n * sz E ≡ 0) in
    qed 𝓛 (((‵ (flft κs.0 qs.0) ⊛ ‵ (flft κs.1.0 qs.1.0) ⊛ ‵ (flft κs.1.1.0 qs.1.1.0) ⊛ ‵ ftrue)
    ⊛ ‵ (owns (types_at T.signature.params κs) a vss))
    ∷ (raw (fact 𝓤 (κs.1.0 ⊑ X.lives)) ⊛ raw (fact 𝓤 (κs.1.1.0 ⊑ W.lives)) ⊛ raw (fact 𝓤 Ok))
    ∷ []) ∵
    move ! (1 ∷ []) $ split ! $ drop ! $ split ! $ drop ! $
    heard ! Ok (λ ok. split ! $ keep ! (0 ∷ []) $
    enter ! _ _ _ _ _ $
    alloc_all ! (λ l. pass_all ! refl ((tt, tt), ((tt, record { fits = are.1.0.1 }), tt)) $
    let b = l 3 in let made : Val = pair_val (word b 0) mark in
    let typed : Good (layout (Both E Z)) made = (tt, ((tt, tt), ((tt, tt), tt))) in
    sets ! (agg ! (no_more !)) refl (tt, tt) $ sets ! (addr ! (from ! (stop !))) refl (tt, tt) $
    sets ! (of_opd ! (get ! refl)) refl (tt, tt) $
    sets ! (agg ! (and_then ! (get ! refl) (no_more !))) refl (tt, (tt, tt)) $
    sets ! (of_opd ! (get ! refl)) refl (tt, (tt, tt)) $
    sets ! (agg ! (no_more !)) refl (tt, tt) $
    sets ! (agg ! (and_then ! (get ! refl) (no_more !))) refl (tt, (tt, tt)) $
    sets ! (agg ! (and_then ! (get ! refl) (and_then ! (get ! refl) (no_more !)))) refl typed $
    returns ! (look_at ! 0 refl) $ free_all ! refl $
    use0 𝓛 (‵ (each (Spot E 𝓛 b 0) 0 (replicate n None))) (free_row E 𝓛 b 0 n ok.1) $
    nothing ! $ rewrite ! 0 (λ (k : ℕ). ‵ (token_for (R E) (token Z h) (block_ptr b 0) n k))
    (sym ok.1) refl $ pair_made E Z ! h b 0 n ok.0 $
    suffices ! _ (ends_at 𝓛 T stayed c y made (new_pair E Z h b 0 n) (tt, (tt, tt))
    (tt, (tt, tt))) $ says ! (refl, refl, refl, refl) $
    nothing ! $ nothing ! $ fjoin ! $ nothing ! $ fjoin ! $ move ! (2 ∷ 0 ∷ 1 ∷ []) $ done !)))
