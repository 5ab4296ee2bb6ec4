-- The first values are moved out as an array, and their places are empty then. Assumes `Logic`.
use Rattle.aa_raw.proofs.{ !, El, Goes-ref, IsRun, Items, List, None, Place, Rw, Some, SpotsFrom, Stays, Val, Vals, Whole, [], after, alloc_all, ap, arith, array_args, items_out, at, at_ret, blocks, closes_places, done, empties, ends_at, enter, env, exec, fact, fat, feq_i, first, fjoin, fjoin3, fld, flft, free_all, froom, fsplit, fsplit3, ftrue, full_share, get, given, heard, holding, inst_fn, items_ty, join, keep, layout, learn, length, length-map, length-replicate, length-take, load, look, look_at, look_in, lose as drop, move, mut_Tells, mut_vals, named, nothing, number, of_opd, opens_places, owns, pass_all, pick, plain, proved, qed, raw, refl, replicate, returns, rewrite, says_two, sets, sets_last, ty_size as size, some, split, start, stay_ref, stop, sub, suffices, sym, tables, take, through, types_at, use1, values_of, walk_of, whole, with_run, ‵, ℕ, ◌$◌, ◌<◌, ◌^◌, ◌∵◌, ◌∷◌, ◌≡◌, ◌⊑◌, ◌⊛◌}
use Rattle.aa_raw.specs.contracts.row.Row.read_array as f
use Rattle.aa_raw.proofs.row.Row.read_array.Code as code

pub read_array_spec : {M : Type 1} → Rattle.aa_raw.proofs.row.Row.read_array.Statement.statement M
read_array_spec 𝓤 𝓛 𝓜 𝓡 wired X N LX fN =
    let E : El = record { row = X; laws = LX } in
    let e = inst_fn (array_args (record { row = X; laws = LX }) N) code.function in
    let T = f.ended X (number N) in
    let stayed : Stays (f.ended E.row (number N)).signature.params (f.ended E.row (number N)).kept =
    (stay_ref (0 ∷ []) tt (plain (λ _. Rw E)), tt) in
    let c = f.clauses X (number N) 𝓛 𝓜.mem 𝓡.returns in let W = walk_of 𝓛 T stayed c in
    let 𝓣 = tables 𝓤 𝓛.H 𝓜 𝓡 𝓡.env in
    proved 𝓛 T stayed c 𝓜 𝓡 (Goes-ref 𝓛 3 0 tt (plain (λ _. Rw E)), tt)
    (f.Key.name (array_args E N)) e (code.unfolded 𝓤 𝓛.H 𝓜 𝓡 wired (X, (number N, tt)))
    (λ κs. (mut_vals, tt)) (λ κs. (mut_Tells (named 0) κs.0 (Rw E), tt)) (λ κs qs bounds a g are.
    let rb = a.0.ref_ptr.0 in let ro = a.0.ref_ptr.1 in let d = a.0.now in
    let vss : Vals T.signature κs = (mut_vals a.0, tt) in
    let y : W.Ghost = ((κs, qs, bounds, a, vss), g) in
    qed 𝓛 (((‵ (flft κs.0 qs.0) ⊛ ‵ (flft κs.1.0 qs.1.0) ⊛ ‵ (flft κs.1.1.0 qs.1.1.0) ⊛ ‵ ftrue)
    ⊛ ‵ (owns (types_at T.signature.params κs) a vss))
    ∷ (raw (fact 𝓤 (κs.1.0 ⊑ X.lives)) ⊛ raw (fact 𝓤 (κs.1.1.0 ⊑ (number N).lives))
    ⊛ raw (fact 𝓤 (size (layout (Items E N)) < 2 ^ 63)) ⊛ raw (fact 𝓤 (IsRun d.places 0 N)))
    ∷ []) ∵
    move ! (1 ∷ []) $ split ! $ drop ! $ split ! $ drop ! $ split ! $ drop ! $
    heard ! (IsRun d.places 0 N) (λ run. let it = values_of (take N d.places) run.1 in
    let xs = it.0 in let within = run.0 in
    let count : length xs
    ≡ N = omega (arith, ap length it.1, length-map xs Some, length-take N d.places) in
    split ! $ split ! $ move ! (2 ∷ []) $ fsplit ! $ fsplit3 ! $ keep ! (1 ∷ 2 ∷ 4 ∷ 5 ∷ []) $
    enter ! _ _ _ _ _ $ alloc_all ! (λ l. pass_all ! refl ((tt, tt), tt) $
    opens_places E ! tt d 0 N rb ro within (λ b o p small far. first ! $ blocks ! $
    sets ! (of_opd ! (load ! (through ! refl (fld ! refl (stop !)))
    (look_in ! 1 (sub ! 0 refl (whole !))))) refl (tt, tt) $
    rewrite ! 0 (λ (cs : List (Place E)). ‵ (SpotsFrom E 𝓛 b o 0 cs)) it.1 refl $
    use1 𝓛 (some (λ (v : Val).
    given (Whole E N v)
    (‵ (fat full_share (items_ty E N) b (at E 𝓛 b o 0) v)
    ⊛ ‵ ((Items E N).own_val xs (v ∷ []))))) (items_out E N 𝓛 b o xs 0 count) $
    pick ! (λ v. learn ! (λ good. split ! $
    rewrite ! 0 (λ (k : ℕ). ‵ (fat full_share (items_ty E N) b k v)) (start E 𝓛 b o) refl $
    sets_last ! (of_opd ! (load ! (through ! refl (stop !)) (look ! 0 refl))) refl good $
    exec ! 𝓣.C 𝓣.Λ (env e.locals l) (after 1 e.body) (at_ret _ (W.post y)) $
    sets ! (of_opd ! (get ! refl)) refl good $
    use1 𝓛 (‵ (froom (items_ty E N) b o)) (𝓛.laws.at_room (items_ty E N) b o v) $
    rewrite ! 0 (λ (k : ℕ). ‵ (froom (items_ty E N) b k)) (sym (start E 𝓛 b o)) refl $
    use1 𝓛 (‵ (SpotsFrom E 𝓛 b o 0 (replicate N None))) (empties E 𝓛 b o N 0) $
    move ! (0 ∷ 2 ∷ 3 ∷ 4 ∷ 5 ∷ 6 ∷ []) $ closes_places E ! tt d 0 N rb ro b o (replicate N None)
    (length-replicate N None) within p small $
    returns ! (look_at ! 0 refl) $ free_all ! refl $
    suffices ! _ (ends_at 𝓛 T stayed c y v xs
    (holding d (with_run d.places 0 N (replicate N None)), tt) (tt, tt)) $
    says_two ! (it.1, (refl, refl)) $
    feq_i ! _ (mut_vals a.0) _ refl $ fjoin3 ! $ nothing ! $ move ! (1 ∷ 0 ∷ []) $ fjoin ! $
    move ! (1 ∷ 3 ∷ []) $ join ! $ done !))))))
