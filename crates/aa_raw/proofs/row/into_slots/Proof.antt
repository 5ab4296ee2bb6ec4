-- The places of a row are slots, whatever they hold. Assumes `Logic`.
use Rattle.aa_raw.proofs.{ !, Bool, El, From, Goes-blank, Goes-dropped, ItemIn, List, Made, R, Room, Row, Rw, SliceRefOf, Stays, Vals, WT, WpFn, [], after, all, alloc_all, and_then, args, at_from, at_ret, await, blocks, calls_at_last, done, el, elτ, ends_at, enter, env, exec, fact, false, first, fjoin, fld, flft, framed, free_all, from_gives, from_goes, froom, fsplit, ftrue, get, get_in, given, heard, held, inst_fn, is, join, keep, lands_last, later, learn, length, length-replicate, look_at, move, no, no_al, no_more, nothing, of_opd, of_space, owns, pass_all, pick, plain, prop, proved_at, qed, raw, refl, regoal, replicate, returns, rewrite, room_of_row, row_Typed, row_had, row_val, says, sets, shr_slice_vals, some, split, stay_dropped, stop, sub, subst, suffices, sym, sz, tables, ty_array, types_at, use1, use2, walk_of, whole, word, yes, ‵, ℕ, ◌$◌, ◌*◌, ◌<◌, ◌^◌, ◌∙◌, ◌∵◌, ◌∷◌, ◌≡◌, ◌⊑◌, ◌⊛◌}
use Rattle.core.proofs.slots.Slots.from_raw_parts.Met as callee
use Rattle.aa_raw.specs.contracts.row.into_slots as f
use Rattle.aa_raw.proofs.row.into_slots.Code as code

pub into_slots_spec : {M : Type 1} → Rattle.aa_raw.proofs.row.into_slots.Statement.statement M
into_slots_spec 𝓤 𝓛 𝓜 𝓡 wired X LX =
    let E : El = record { row = X; laws = LX } in let V = held (record { row = X; laws = LX }) in
    let e = inst_fn (args E) code.function in
    let stayed : Stays (f.ended E.row).signature.params (f.ended E.row).kept = (
      stay_dropped (plain (λ _. Rw E)) no,
      (stay_dropped (SliceRefOf (0 ∷ []) tt (plain (λ _. R E)) (λ _. tt)) yes, tt),
    ) in
    let c = f.clauses X 𝓛 𝓜.mem 𝓡.returns in let W = walk_of 𝓛 (f.ended X) stayed c in
    let 𝓣 = tables 𝓤 𝓛.H 𝓜 𝓡 𝓡.env in
    let met = callee.met 𝓤 𝓛 𝓜 𝓡 (code.calls-core::slots::Slots::from_raw_parts 𝓡.env wired) X LX in
    let Makes = From V 𝓛 𝓜.mem 𝓡.returns in
    proved_at 𝓛 (f.ended X) stayed c 𝓜 𝓡 (
      Goes-blank 𝓛 2 (plain (λ _. Rw E)) no (λ κs x w. tt),
      (
        Goes-dropped 𝓛 2 (SliceRefOf (0 ∷ []) tt (plain (λ _. R E)) (λ _. tt)) yes
            (λ κs x w. refl),
        tt,
      ),
    )
    (f.Key.name (args E)) e (code.unfolded 𝓤 𝓛.H 𝓜 𝓡 wired (X, tt)) (λ z are.
    let κs = z.0.0 in let qs = z.0.1 in let a = z.0.3 in let us = z.0.4 in let row = a.0 in
    let xs = a.1.0.now in let n = length xs in let fs : List Bool = replicate n false in
    let Fits : Type 0 = length row.places ≡ n in let room : Room (R E) n = are.1.0.0.1 in
    let far = room.0 in
    let spelled : Vals (f.ended X).signature κs → W.Ghost = λ vss. ((κs, qs, z.0.2, a, vss), z.1) in
    qed 𝓛 (((‵ (flft κs.0 qs.0) ⊛ ‵ (flft κs.1.0 qs.1.0) ⊛ ‵ ftrue)
    ⊛ ‵ (owns (types_at (f.ended X).signature.params κs) a us))
    ∷ (raw (fact 𝓤 (κs.1.0 ⊑ X.lives)) ⊛ raw (fact 𝓤 Fits)) ∷ []) ∵
    move ! (1 ∷ []) $ split ! $ heard ! (κs.1.0 ⊑ X.lives) (λ lives. heard ! Fits (λ fits.
    split ! $ split ! $ move ! (2 ∷ []) $ fsplit ! $
    row_had (R E) ! row us.0 (λ b o lies spelt small. keep ! (0 ∷ 2 ∷ 3 ∷ []) $
    use1 𝓛 (‵ (froom (ty_array (elτ E) (length row.places)) b o)) (room_of_row E 𝓛 b o row.places) $
    rewrite ! 0 (λ (k : ℕ). ‵ (froom (ty_array (elτ E) k) b o)) fits refl $
    use1 𝓛 (‵ (all V b o xs fs)) (of_space (el V) 𝓛 b o n xs refl) $ move ! (2 ∷ []) $ split ! $
    move ! (2 ∷ 0 ∷ []) $
    let vss : Vals (f.ended X).signature κs = (word b o ∷ [], (shr_slice_vals a.1.0, tt)) in
    let y = spelled vss in let words : WT (row_val b o n) = (tt, (record { fits = far }, tt)) in
    regoal ! (λ (uss : Vals (f.ended X).signature κs).
    prop (WpFn 𝓤 𝓛.H 𝓣.C 𝓣.Λ e (W.args (spelled uss)) (W.post (spelled uss))))
    (λ k. (spelt k, (are.1.0.0.0 k, tt))) refl $
    enter ! _ _ _ _ _ $
    alloc_all ! (λ l.
    pass_all ! refl ((tt, (tt, tt)), ((tt, (tt, (record { fits = far }, tt))), tt)) $
    let g : Makes.Ghost = at_from V 𝓛 𝓜.mem 𝓡.returns κs.1.0 qs.1.0 b o n xs fs in
    sets ! (of_opd ! (get_in ! (fld ! refl (stop !)) (sub ! 0 refl (whole !)))) refl (tt, tt) $
    first ! $ blocks ! $
    sets ! (of_opd ! (get_in ! (fld ! refl (stop !)) (sub ! 1 refl (whole !)))) refl
    (tt, record { fits = far }) $
    use2 𝓛 (raw (Makes.pre g))
    (from_goes V 𝓛 𝓜.mem 𝓡.returns κs.1.0 qs.1.0 b o n xs fs lives refl
    (sym (length-replicate n false)) far (subst (λ k. k * sz E < 2 ^ 63) fits small)) $
    calls_at_last ! (framed 𝓤 𝓛.H 𝓜 𝓣) Makes met g
    (and_then ! (get ! refl) (and_then ! (get ! refl) (no_more !))) (λ v.
    use1 𝓛 (later (some
    (λ (r : (Row V).Denot).
    given ((v ≡ row_val b o n) × Made V 𝓛 𝓜.mem 𝓡.returns κs.1.0 qs.1.0 b o n xs fs r)
    (‵ ((Row V).own_val r (row_val b o n ∷ [])) ⊛ ‵ (flft κs.1.0 qs.1.0)))))
    (from_gives V 𝓛 𝓜.mem 𝓡.returns κs.1.0 qs.1.0 b o n xs fs v) $ await ! tt $
    pick ! (λ r. learn ! (λ got. split ! $ let made = got.1 in
    lands_last ! refl (row_Typed V v b o n got.0 far) $
    exec ! 𝓣.C 𝓣.Λ (env e.locals l) (after 2 e.body) (at_ret _ (W.post y)) $
    sets ! (is ! (of_opd ! (get ! refl)) got.0) refl (tt, words) $
    returns ! (look_at ! 0 refl) $ free_all ! refl $
    suffices ! _ (ends_at 𝓛 (f.ended X) stayed c y (row_val b o n) r (tt, (tt, tt))
    (tt, (tt, tt))) $ says ! (made.0 ∙ sym lies, made.1, made.2) $
    move ! (1 ∷ 2 ∷ []) $ join ! $ move ! (2 ∷ 0 ∷ []) $ join ! $ nothing ! $ nothing ! $ fjoin ! $
    nothing ! $ fjoin ! $ move ! (1 ∷ 0 ∷ 2 ∷ []) $ done !))))))))
