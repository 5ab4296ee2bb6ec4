-- The places from one on are taken off the end of a row, as a row of their own. Assumes `Logic`.
use Rattle.aa_raw.proofs.{ !, El, Fml, Goes-dropped, Goes-ref, List, Place, R, Rw, Spot, SpotsFrom, Stays, Vals, [], after, agg, alloc_all, and_then, ap, args, arith, at, at_ret, bin, block_ptr, blocks, closes_row, cut_spots, done, drop as drop_l, ends_at, enter, env, exec, fact, feq_i, first, fjoin, fjoin3, fld, flft, free_all, fsplit, fsplit3, ftrue, get, heard, holding, inst_fn, is, join, keep, length, length-drop, length-take, load, look_at, look_in, lose as drop, move, mut_Tells, mut_vals, named, no_more, nothing, of_opd, opens_row, owns, pass_all, plain, proved, ptr_add, qed, raw, refl, returns, rewrite, row_made, same_spots, says_three, sets, sets_last, size_word, split, stay_dropped, stay_ref, stop, sub, suffices, sym, sz, tables, take, take-append-drop, through, times_below, types_at, uint_Tells, uint_vals, uncapped, use1, usize, vint, w64, walk_of, way, way_fits, whole, word, yes, ‵, ◌$◌, ◌^◌, ◌∵◌, ◌∷◌, ◌≤◌, ◌⊑◌, ◌⊛◌}
use Rattle.aa_raw.specs.contracts.row.Row.cut as f
use Rattle.aa_raw.proofs.row.Row.cut.Code as code

pub cut_spec : {M : Type 1} → Rattle.aa_raw.proofs.row.Row.cut.Statement.statement M
cut_spec 𝓤 𝓛 𝓜 𝓡 wired X LX =
    let E : El = record { row = X; laws = LX } in let e = inst_fn (args E) code.function in
    let stayed : Stays (f.ended E.row).signature.params (f.ended E.row).kept =
    (stay_ref (0 ∷ []) tt (plain (λ _. Rw E)), (stay_dropped (plain (λ _. usize)) yes, tt)) in
    let c = f.clauses X 𝓛 𝓜.mem 𝓡.returns in let W = walk_of 𝓛 (f.ended X) stayed c in
    let 𝓣 = tables 𝓤 𝓛.H 𝓜 𝓡 𝓡.env in
    proved 𝓛 (f.ended X) stayed c 𝓜 𝓡 (
      Goes-ref 𝓛 2 0 tt (plain (λ _. Rw E)),
      (Goes-dropped 𝓛 2 (plain (λ _. usize)) yes (λ κs x w. refl), tt),
    )
    (f.Key.name (args E)) e (code.unfolded 𝓤 𝓛.H 𝓜 𝓡 wired (X, tt))
    (λ κs. (mut_vals, (uint_vals w64, tt)))
    (λ κs. (mut_Tells (named 0) κs.0 (Rw E), (uint_Tells w64, tt))) (λ κs qs bounds a _ are.
    let rb = a.0.ref_ptr.0 in let ro = a.0.ref_ptr.1 in let d = a.0.now in let i = a.1.0 in
    let front = take i d.places in let back = drop_l i d.places in
    let vss : Vals (f.ended X).signature κs = (mut_vals a.0, (uint_vals w64 i, tt)) in
    let y : W.Ghost = ((κs, qs, bounds, a, vss), tt) in
    qed 𝓛 (((‵ (flft κs.0 qs.0) ⊛ ‵ (flft κs.1.0 qs.1.0) ⊛ ‵ ftrue)
    ⊛ ‵ (owns (types_at (f.ended X).signature.params κs) a vss))
    ∷ (raw (fact 𝓤 (κs.1.0 ⊑ X.lives)) ⊛ raw (fact 𝓤 (i ≤ length d.places))) ∷ []) ∵
    move ! (1 ∷ []) $ split ! $ drop ! $ heard ! (i ≤ length d.places) (λ within.
    split ! $ split ! $ move ! (2 ∷ []) $ fsplit ! $ fsplit3 ! $ keep ! (1 ∷ 2 ∷ 4 ∷ 5 ∷ []) $
    enter ! _ _ _ _ _ $
    alloc_all ! (λ l. pass_all ! refl ((tt, tt), ((tt, record { fits = are.1.0.1 }), tt)) $
    opens_row E ! tt d rb ro (λ b o p small. let far = way E d i small within in
    first ! $ blocks ! $
    sets ! (of_opd ! (load ! (through ! refl (fld ! refl (stop !)))
    (look_in ! 1 (sub ! 0 refl (whole !))))) refl (tt, tt) $
    sets ! (of_opd ! (get ! refl)) refl (tt, record { fits = are.1.0.1 }) $
    sets ! (is ! (bin ! (get ! refl) (size_word !) (record { fits = way_fits E i far }))
    (ap (vint w64) (uncapped i (sz E) far))) refl (tt, record { fits = far }) $
    sets_last ! (bin ! (get ! refl) (get ! refl) tt) refl (tt, tt) $
    exec ! 𝓣.C 𝓣.Λ (env e.locals l) (after 1 e.body) (at_ret _ (W.post y)) $
    sets ! (of_opd ! (get ! refl)) refl (tt, tt) $
    sets ! (agg ! (and_then ! (get ! refl) (no_more !))) refl (tt, (tt, tt)) $
    rewrite ! 0 (λ (cs : List (Place E)). ‵ (SpotsFrom E 𝓛 b o 0 cs))
    (sym (take-append-drop i d.places)) refl $
    use1 𝓛 (‵ (SpotsFrom E 𝓛 b o 0 front) ⊛ ‵ (SpotsFrom E 𝓛 b o i back))
    (cut_spots 𝓛 (Spot E 𝓛 b o) front back 0 i (omega (arith, length-take i d.places))) $
    split ! $
    let r : (Rw E).Denot = record { ptr = block_ptr b (at E 𝓛 b o i); places = back } in
    move ! (1 ∷ []) $
    rewrite ! 0 (λ (F : Fml). ‵ F) (sym (same_spots E 𝓛 b o i 0 i back (omega arith))) refl $
    row_made (R E) ! r b (at E 𝓛 b o i) refl
    (times_below (length back) (length d.places) (sz E) (2 ^ 63)
    (omega (arith, length-drop i d.places)) small) $
    move ! (1 ∷ 2 ∷ 3 ∷ 4 ∷ 5 ∷ []) $
    closes_row E ! tt d rb ro b o front p
    (times_below (length front) (length d.places) (sz E) (2 ^ 63)
    (omega (arith, length-take i d.places)) small) $
    returns ! (look_at ! 0 refl) $ free_all ! refl $
    suffices ! _ (ends_at 𝓛 (f.ended X) stayed c y (word b (at E 𝓛 b o i)) r
    (holding d front, (tt, tt)) (tt, (tt, tt))) $
    says_three ! ((refl, refl), (sym (ap (ptr_add (R E) i) p), refl), small) $
    feq_i ! _ (mut_vals a.0) _ refl $ fjoin3 ! $ nothing ! $ nothing ! $ fjoin ! $
    move ! (1 ∷ 0 ∷ []) $ fjoin ! $ move ! (1 ∷ 3 ∷ []) $ join ! $ done !))))
