-- The first values of a row are moved to the first places of another by one copy of memory. Assumes
-- `Logic`.
use Rattle.aa_raw.proofs.{ !, Array, El, Goes-blank, Goes-dropped, IsRun, List, None, Place, R, Rw, Some, Spot, SpotsFrom, Stays, T, Val, Vals, Valss, WT, WpFn, [], after, agg, alloc_all, and_then, ap, args, arith, array_apart, at_ret, await, block_ptr, blocks, calls_at_last, cells, cut_spots, done, drop as drop_l, el_x, elτ, ends_at, enter, env, exec, fact, feq_i, first, fjoin, fld, flft, fpack, framed, free_all, froom, fsplit3, ftrue, full_share, get, get_in, given, has_ty, heard, inst_fn, join, join_spots, keep, lands_last, later, learn, length, length-append, length-drop, length-map, length-replicate, length-take, look_at, map, mem, move, no, no_more, nothing, of_opd, owns, pair_val, part_at, pass_all, plain, prop, proved_at, qed, raw, refl, regoal, replicate, returns, rewrite, room_of_row, row_had, row_made, row_of_room, says_two, sets, split, split3, start, stay_dropped, stop, sub, subst, suffices, sym, sz, tables, take, take-append-drop, times_below, tuple_type, ty_array, ty_unit, types_at, uint_vals, use1, use2, use3, usize, values_in, values_of, values_out, vunit, w64, walk_of, whole, whole_array, whole_in, whole_out, within, word, yes, ‵, ℕ, ◌$◌, ◌*◌, ◌++◌, ◌+◌, ◌^◌, ◌∙◌, ◌∵◌, ◌∷◌, ◌≡◌, ◌≤◌, ◌⊑◌, ◌⊛◌}
use denote.Index.{row}
use denote.Struct.Declared as Declared
use Rattle.core.proofs.alloc.Moves.{Copies, Copies-gives, Copies-goes, at_copies}
use Rattle.core.proofs.ptr.copy_nonoverlapping.Met as callee
use Rattle.aa_raw.specs.contracts.row.copy_apart as f
use Rattle.aa_raw.proofs.row.copy_apart.Code as code

pub copy_apart_spec : {M : Type 1} → Rattle.aa_raw.proofs.row.copy_apart.Statement.statement M
copy_apart_spec 𝓤 𝓛 𝓜 𝓡 wired X LX =
    let E : El = record { row = X; laws = LX } in let e = inst_fn (args E) code.function in
    let stayed : Stays (f.ended E.row).signature.params (f.ended E.row).kept = (
      stay_dropped (plain (λ _. Rw E)) no,
      (stay_dropped (plain (λ _. Rw E)) no, (stay_dropped (plain (λ _. usize)) yes, tt)),
    ) in
    let c = f.clauses X 𝓛 𝓜.mem 𝓡.returns in let W = walk_of 𝓛 (f.ended X) stayed c in
    let 𝓣 = tables 𝓤 𝓛.H 𝓜 𝓡 𝓡.env in
    let met = callee.met 𝓤 𝓛 𝓜 𝓡 (code.calls-core::ptr::copy_nonoverlapping 𝓡.env wired) X LX in
    let Copy = Copies X 𝓛 𝓜.mem 𝓡.returns in
    proved_at 𝓛 (f.ended X) stayed c 𝓜 𝓡 (
      Goes-blank 𝓛 1 (plain (λ _. Rw E)) no (λ κs x w. tt),
      (
        Goes-blank 𝓛 1 (plain (λ _. Rw E)) no (λ κs x w. tt),
        (Goes-dropped 𝓛 1 (plain (λ _. usize)) yes (λ κs x w. refl), tt),
      ),
    )
    (f.Key.name (args E)) e (code.unfolded 𝓤 𝓛.H 𝓜 𝓡 wired (X, tt)) (λ z are.
    let κs = z.0.0 in let qs = z.0.1 in let a = z.0.3 in let us = z.0.4 in let d = a.0 in
    let r = a.1.0 in let n = a.1.1.0 in let fn = are.1.1.0.1 in
    let spelled : Vals (f.ended X).signature κs → W.Ghost = λ vss. ((κs, qs, z.0.2, a, vss), z.1) in
    let Fits : Type 0 = n ≤ length d.places in let There : Type 0 = IsRun r.places 0 n in
    qed 𝓛 (((‵ (flft κs.0 qs.0) ⊛ ‵ ftrue)
    ⊛ ‵ (owns (types_at (f.ended X).signature.params κs) a us))
    ∷ (raw (fact 𝓤 (κs.0 ⊑ X.lives)) ⊛ raw (fact 𝓤 Fits) ⊛ raw (fact 𝓤 There)) ∷ []) ∵
    move ! (1 ∷ []) $ split ! $
    heard ! (κs.0 ⊑ X.lives) (λ lives. split ! $ heard ! Fits (λ fits. heard ! There (λ there.
    split ! $ split ! $ move ! (2 ∷ []) $ fsplit3 ! $
    row_had (R E) ! d us.0
    (λ b o lies spelt small. keep ! (1 ∷ 0 ∷ 3 ∷ []) $
    row_had (R E) ! r us.1.0 (λ rb ro lies' spelt' small'.
    -- [the places of the source; of the row; the token]
    let vss : Vals (f.ended X).signature κs =
    (word b o ∷ [], (word rb ro ∷ [], (uint_vals w64 n, tt))) in let y = spelled vss in
    let old = take n d.places in let rest = drop_l n d.places in let front = take n r.places in
    let back = drop_l n r.places in
    let it = values_of front there.1 in let xs : List (el_x E) = it.0 in
    let many : length old ≡ n = omega (arith, length-take n d.places) in
    let many' : length front ≡ n = omega (arith, length-take n r.places, there.0) in
    let count : length xs ≡ n = sym (length-map xs Some)
    ∙ sym (ap (λ (cs : List (Place E)). length cs) it.1) ∙ many' in
    regoal ! (λ (uss : Vals (f.ended X).signature κs).
    prop (WpFn 𝓤 𝓛.H 𝓣.C 𝓣.Λ e (W.args (spelled uss)) (W.post (spelled uss))))
    (λ k. (spelt k, (spelt' k, (are.1.1.0.0 k, tt)))) refl $
    enter ! _ _ _ _ _ $
    alloc_all ! (λ l.
    pass_all ! refl ((tt, (tt, tt)), ((tt, (tt, tt)), ((tt, record { fits = fn }), tt))) $
    rewrite ! 0 (λ (cs : List (Place E)). ‵ (SpotsFrom E 𝓛 rb ro 0 cs))
    (sym (take-append-drop n r.places)) refl $
    use1 𝓛 (‵ (SpotsFrom E 𝓛 rb ro 0 front) ⊛ ‵ (SpotsFrom E 𝓛 rb ro n back))
    (cut_spots 𝓛 (Spot E 𝓛 rb ro) front back 0 n (omega (arith, many'))) $ split ! $
    rewrite ! 0 (λ (cs : List (Place E)). ‵ (SpotsFrom E 𝓛 rb ro 0 cs)) it.1 refl $
    use1 𝓛 (‵ (cells (mem (R E)) xs rb (0 * sz E + ro))) (values_out E 𝓛 rb ro xs 0) $
    rewrite ! 0 (λ (k : ℕ). ‵ (cells (mem (R E)) xs rb k)) (start E 𝓛 rb ro) refl $
    use1 𝓛 (‵ (row (R E) full_share xs rb ro)) (whole_out 𝓛 (R E) xs rb ro) $
    use1 𝓛 (‵ (part_at (Array (R E) n) full_share xs rb ro))
    (whole_array E 𝓛 full_share n xs rb ro count) $ move ! (2 ∷ []) $
    rewrite ! 0 (λ (cs : List (Place E)). ‵ (SpotsFrom E 𝓛 b o 0 cs))
    (sym (take-append-drop n d.places)) refl $
    use1 𝓛 (‵ (SpotsFrom E 𝓛 b o 0 old) ⊛ ‵ (SpotsFrom E 𝓛 b o n rest))
    (cut_spots 𝓛 (Spot E 𝓛 b o) old rest 0 n (omega (arith, many))) $ split ! $
    use1 𝓛 (‵ (froom (ty_array (elτ E) (length old)) b o)) (room_of_row E 𝓛 b o old) $
    rewrite ! 0 (λ (k : ℕ). ‵ (froom (ty_array (elτ E) k) b o)) many refl $
    -- [memory in the row; its other places; the values; the source's other places; the token]
    let g : Copy.Ghost = at_copies X 𝓛 𝓜.mem 𝓡.returns κs.0 qs.0 rb ro b o n xs in
    move ! (2 ∷ 0 ∷ 4 ∷ []) $
    use3 𝓛 (raw (Copy.pre g))
    (Copies-goes X 𝓛 𝓜.mem 𝓡.returns κs.0 qs.0 rb ro b o n xs lives fn
    (times_below n (length d.places) (sz E) (2 ^ 63) fits small)) $ first ! $ blocks ! $
    calls_at_last ! (framed 𝓤 𝓛.H 𝓜 𝓣) Copy met g
    (and_then ! (get_in ! (fld ! refl (stop !)) (sub ! 0 refl (whole !)))
    (and_then ! (get_in ! (fld ! refl (stop !)) (sub ! 0 refl (whole !)))
    (and_then ! (get ! refl) (no_more !)))) (λ v.
    use1 𝓛 (later (given (v ≡ vunit)
    (‵ (part_at (Array (R E) n) full_share xs b o) ⊛ ‵ (froom (ty_array (elτ E) n) rb ro)
    ⊛ ‵ (flft κs.0 qs.0)))) (Copies-gives X 𝓛 𝓜.mem 𝓡.returns κs.0 qs.0 rb ro b o n xs v) $
    await ! tt $ learn ! (λ over. split3 ! $
    lands_last ! refl (subst (λ (u : Val). T (has_ty ty_unit u) × WT u) (sym over) (tt, tt)) $
    exec ! 𝓣.C 𝓣.Λ (env e.locals l) (after 1 e.body) (at_ret _ (W.post y)) $
    sets ! (of_opd ! (get ! refl)) refl (tt, (tt, tt)) $ sets ! (of_opd ! (get ! refl)) refl
    (tt, (tt, tt)) $
    sets ! (agg ! (and_then ! (get ! refl) (and_then ! (get ! refl) (no_more !)))) refl
    (tt, ((tt, tt), ((tt, tt), tt))) $
    returns ! (look_at ! 0 refl) $ free_all ! refl $
    -- [the values; memory in the source; the token; the row's other places; the source's]
    use1 𝓛 (given (length xs ≡ n) (‵ (row (R E) full_share xs b o)))
    (array_apart E 𝓛 full_share n xs b o) $ learn ! (λ _.
    use1 𝓛 (‵ (cells (mem (R E)) xs b o)) (whole_in 𝓛 (R E) xs b o) $
    rewrite ! 0 (λ (k : ℕ). ‵ (cells (mem (R E)) xs b k)) (sym (start E 𝓛 b o)) refl $
    use1 𝓛 (‵ (SpotsFrom E 𝓛 b o 0 (map Some xs))) (values_in E 𝓛 b o xs 0) $
    rewrite ! 0 (λ (cs : List (Place E)). ‵ (SpotsFrom E 𝓛 b o 0 cs)) (sym it.1) refl $
    move ! (0 ∷ 3 ∷ []) $ use2 𝓛 (‵ (SpotsFrom E 𝓛 b o 0 (front ++ rest)))
    (join_spots 𝓛 (Spot E 𝓛 b o) front rest 0 n (omega (arith, many'))) $
    let d' : (Rw E).Denot = record { ptr = block_ptr b o; places = front ++ rest } in
    let long : length (front ++ rest)
    ≤ length d.places =
    omega (arith, length-append front rest, many', length-drop n d.places) in
    row_made (R E) ! d' b o refl
    (times_below (length (front ++ rest)) (length d.places) (sz E) (2 ^ 63) long small) $
    move ! (1 ∷ 3 ∷ []) $
    use1 𝓛 (‵ (SpotsFrom E 𝓛 rb ro 0 (replicate n None))) (row_of_room E 𝓛 rb ro n) $
    let none : List (Place E) = replicate n None in
    let r' : (Rw E).Denot = record { ptr = block_ptr rb ro; places = none ++ back } in
    use2 𝓛 (‵ (SpotsFrom E 𝓛 rb ro 0 (none ++ back)))
    (join_spots 𝓛 (Spot E 𝓛 rb ro) none back 0 n
    (omega (arith, length-replicate {A = Place E} n None))) $
    let long' : length (none ++ back)
    ≤ length r.places =
    omega (
      arith,
      length-append none back,
      length-replicate {A = Place E} n None,
      length-drop n r.places,
      there.0,
    ) in
    row_made (R E) ! r' rb ro refl
    (times_below (length (none ++ back)) (length r.places) (sz E) (2 ^ 63) long' small') $
    -- [the source; the row; the token]
    let pair : Val = pair_val (word b o) (word rb ro) in
    nothing ! $ move ! (1 ∷ 0 ∷ []) $ fjoin ! $ move ! (1 ∷ 0 ∷ []) $ fjoin ! $
    feq_i ! (List Val) (pair ∷ []) (pair ∷ []) refl $ fjoin ! $
    fpack ! (Valss (Rw E ∷ Rw E ∷ []))
    (within (Declared.shape (tuple_type (Rw E ∷ Rw E ∷ []))) (d', (r', tt)) (pair ∷ []))
    (word b o ∷ [], (word rb ro ∷ [], tt)) $
    suffices ! _ (ends_at 𝓛 (f.ended X) stayed c y pair (d', r') (tt, (tt, (tt, tt)))
    (tt, (tt, (tt, tt)))) $ says_two ! ((sym lies, refl), (sym lies', refl)) $
    nothing ! $ move ! (2 ∷ 0 ∷ []) $ join ! $ nothing ! $ nothing ! $ fjoin ! $ nothing ! $
    fjoin ! $ nothing ! $ fjoin ! $ move ! (1 ∷ 0 ∷ 2 ∷ []) $ done !))))))))))
