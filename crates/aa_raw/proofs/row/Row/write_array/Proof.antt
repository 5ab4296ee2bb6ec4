-- An array is written into adjacent places, whatever was there. Assumes `Logic`.
use Rattle.aa_raw.proofs.{ !, El, Goes-dropped, Goes-ref, Items, List, Rw, Some, SpotsFrom, Stays, Vals, WpFn, [], after, all_rest, all_room, alloc_all, ap, arith, array_args, assigns_last, at, at_ret, bin, blocks, closes_places, done, drop as drop_l, el_x, elτ, ends_at, ent, enter, env, exec, fact, feq_i, first, fjoin, fjoin3, fld, flft, free_all, froom, fsplit, fsplit3, ftrue, get, given, heard, holding, init, inst_fn, is, items_in, items_lawful, items_ty, join, keep, layout, learn, length, length-drop, length-map, length-take, load, look_at, look_in, lose as drop, map, move, mut_vals, no, nothing, number, of_opd, one_val, opens_places, owns, pass_all, plain, proved_at, qed, raw, refl, returns, rewrite, says, sets, size_word, spent, split, stay_dropped, stay_ref, stop, sub, subst, suffices, sym, sz, tables, take, through, ty_array, ty_size as size, types_at, uint_vals, uncapped, unit_lit, use1, use2, usize, via, vint, vunit, w64, walk_of, way_fits, whole, with_run, yes, ‵, ℕ, ◌$◌, ◌+◌, ◌<◌, ◌^◌, ◌∙◌, ◌∵◌, ◌∷◌, ◌≡◌, ◌≤◌, ◌⊑◌, ◌⊛◌}
use Rattle.aa_raw.specs.contracts.row.Row.write_array as f
use Rattle.aa_raw.proofs.row.Row.write_array.Code as code

pub write_array_spec : {M : Type 1} → Rattle.aa_raw.proofs.row.Row.write_array.Statement.statement M
write_array_spec 𝓤 𝓛 𝓜 𝓡 wired X N LX fN =
    let E : El = record { row = X; laws = LX } in
    let e = inst_fn (array_args (record { row = X; laws = LX }) N) code.function in
    let T = f.ended X (number N) in
    let stayed : Stays (f.ended E.row (number N)).signature.params (f.ended E.row (number N)).kept = (
      stay_ref (0 ∷ []) tt (plain (λ _. Rw E)),
      (stay_dropped (plain (λ _. usize)) yes, (stay_dropped (plain (λ _. Items E N)) no, tt)),
    ) in
    let c = f.clauses X (number N) 𝓛 𝓜.mem 𝓡.returns in let W = walk_of 𝓛 T stayed c in
    let 𝓣 = tables 𝓤 𝓛.H 𝓜 𝓡 𝓡.env in
    proved_at 𝓛 T stayed c 𝓜 𝓡 (
      Goes-ref 𝓛 3 0 tt (plain (λ _. Rw E)),
      (
        Goes-dropped 𝓛 3 (plain (λ _. usize)) yes (λ κs x w. refl),
        (λ κs x left vs ok. via 𝓤 _ (spent 𝓛 x left) (𝓛.laws.⇛_intro _), tt),
      ),
    )
    (f.Key.name (array_args E N)) e (code.unfolded 𝓤 𝓛.H 𝓜 𝓡 wired (X, (number N, tt))) (λ z are.
    let κs = z.0.0 in let qs = z.0.1 in let a = z.0.3 in let rb = a.0.ref_ptr.0 in
    let ro = a.0.ref_ptr.1 in let d = a.0.now in let i = a.1.0 in
    let xs : List (el_x E) = a.1.1.0 in
    let got = one_val (items_ty (record { row = X; laws = LX }) N) z.0.4.1.1.0
    ((items_lawful (record { row = X; laws = LX }) N 𝓛).typed xs z.0.4.1.1.0 are.1.1.0) in
    let v = got.0 in let good = got.2 in
    let spelled : Vals T.signature κs → W.Ghost = λ vss. ((κs, qs, z.0.2, a, vss), z.1) in
    let vss : Vals T.signature κs = (mut_vals a.0, (uint_vals w64 i, (v ∷ [], tt))) in
    let y = spelled vss in
    subst (λ (uss : Vals T.signature κs). ent 𝓤 (W.pre (spelled uss))
    (WpFn 𝓤 𝓛.H 𝓣.C 𝓣.Λ e (W.args (spelled uss)) (W.post (spelled uss))))
    (sym (λ k. (are.0.0 k, (are.1.0.0 k, (got.1 k, tt))))) (
    qed 𝓛 (((‵ (flft κs.0 qs.0) ⊛ ‵ (flft κs.1.0 qs.1.0) ⊛ ‵ (flft κs.1.1.0 qs.1.1.0) ⊛ ‵ ftrue)
    ⊛ ‵ (owns (types_at T.signature.params κs) a vss))
    ∷ (raw (fact 𝓤 (κs.1.0 ⊑ X.lives)) ⊛ raw (fact 𝓤 (κs.1.1.0 ⊑ (number N).lives))
    ⊛ raw (fact 𝓤 (size (layout (Items E N)) < 2 ^ 63))
    ⊛ raw (fact 𝓤 (i + N ≤ length d.places))) ∷ []) ∵
    move ! (1 ∷ []) $ split ! $ drop ! $ split ! $ drop ! $ split ! $ drop ! $
    heard ! (i + N ≤ length d.places) (λ within.
    split ! $ split ! $ move ! (2 ∷ []) $ fsplit3 ! $ fsplit3 ! $ move ! (4 ∷ []) $ fsplit ! $
    keep ! (3 ∷ 4 ∷ 6 ∷ 0 ∷ 7 ∷ []) $
    enter ! _ _ _ _ _ $
    alloc_all ! (λ l. pass_all ! refl ((tt, tt), ((tt, record { fits = are.1.0.1 }), (good, tt))) $
    opens_places E ! tt d i N rb ro within (λ b o p small far. first ! $ blocks ! $
    sets ! (of_opd ! (load ! (through ! refl (fld ! refl (stop !)))
    (look_in ! 1 (sub ! 0 refl (whole !))))) refl (tt, tt) $
    sets ! (is ! (bin ! (get ! refl) (size_word !) (record { fits = way_fits E i far }))
    (ap (vint w64) (uncapped i (sz E) far))) refl (tt, record { fits = far }) $
    sets ! (bin ! (get ! refl) (get ! refl) tt) refl (tt, tt) $
    let had = take N (drop_l i d.places) in
    let many : length had
    ≡ N = omega (arith, length-take N (drop_l i d.places), length-drop i d.places) in
    use1 𝓛 (‵ (froom (ty_array (elτ E) (length had)) b (at E 𝓛 b o i))) (all_room E 𝓛 b o had i) $
    rewrite ! 0 (λ (k : ℕ). ‵ (froom (ty_array (elτ E) k) b (at E 𝓛 b o i))) many refl $
    sets ! (of_opd ! (get ! refl)) refl good $ assigns_last ! (of_opd ! (get ! refl))
    (through ! refl (stop !)) (init ! 0 refl good) $
    exec ! 𝓣.C 𝓣.Λ (env e.locals l) (after 1 e.body) (at_ret _ (W.post y)) $
    sets ! (of_opd ! (unit_lit !)) refl (tt, tt) $
    move ! (0 ∷ 6 ∷ []) $ use2 𝓛 (given (length xs ≡ N) (‵ (SpotsFrom E 𝓛 b o i (map Some xs))))
    (items_in E N 𝓛 b o xs i v) $ learn ! (λ count.
    closes_places E ! tt d i N rb ro b o (map Some xs) (length-map xs Some ∙ count) within p small $
    returns ! (look_at ! 0 refl) $ free_all ! refl $
    suffices ! _ (ends_at 𝓛 T stayed c y vunit tt (
      holding d (with_run d.places i N (map Some xs)),
      (tt, (all_rest (λ _. Unit {0}) (λ _. tt) xs, tt)),
    ) (tt, (tt, (tt, tt)))) $
    says ! (refl, refl) $
    feq_i ! _ (mut_vals a.0) _ refl $ fjoin3 ! $ nothing ! $ nothing ! $ fjoin ! $ nothing ! $
    fjoin ! $ move ! (1 ∷ 0 ∷ []) $ fjoin ! $
    move ! (1 ∷ 2 ∷ []) $ join ! $ feq_i ! _ (vunit ∷ []) _ refl $ keep ! (1 ∷ 2 ∷ 0 ∷ []) $
    done !))))))
