-- The contents of adjacent places are forgotten: they are empty then. Assumes `Logic`.
use Rattle.aa_raw.proofs.{ !, El, Goes-dropped, Goes-ref, None, Rw, SpotsFrom, Stays, Vals, [], all_room, alloc_all, args, arith, at, closes_places, done, drop as drop_l, elτ, empties, ends_at, enter, fact, feq_i, fjoin, fjoin3, flft, free_all, froom, fsplit, fsplit3, ftrue, heard, holding, inst_fn, join, keep, length, length-drop, length-replicate, length-take, look_at, lose as drop, move, mut_Tells, mut_vals, named, nothing, of_opd, opens_places, owns, pass_all, plain, proved, qed, raw, refl, replicate, returns, rewrite, says, sets, split, stay_dropped, stay_ref, suffices, take, ty_array, types_at, uint_Tells, uint_vals, unit_lit, use1, usize, vunit, w64, walk_of, with_run, yes, ‵, ℕ, ◌$◌, ◌+◌, ◌∵◌, ◌∷◌, ◌≡◌, ◌≤◌, ◌⊑◌, ◌⊛◌}
use Rattle.aa_raw.specs.contracts.row.Row.forget as f
use Rattle.aa_raw.proofs.row.Row.forget.Code as code

pub forget_spec : {M : Type 1} → Rattle.aa_raw.proofs.row.Row.forget.Statement.statement M
forget_spec 𝓤 𝓛 𝓜 𝓡 wired X LX =
    let E : El = record { row = X; laws = LX } in let e = inst_fn (args E) code.function in
    let stayed : Stays (f.ended E.row).signature.params (f.ended E.row).kept = (
      stay_ref (0 ∷ []) tt (plain (λ _. Rw E)),
      (stay_dropped (plain (λ _. usize)) yes, (stay_dropped (plain (λ _. usize)) yes, tt)),
    ) in
    let c = f.clauses X 𝓛 𝓜.mem 𝓡.returns in let W = walk_of 𝓛 (f.ended X) stayed c in
    proved 𝓛 (f.ended X) stayed c 𝓜 𝓡 (
      Goes-ref 𝓛 2 0 tt (plain (λ _. Rw E)),
      (
        Goes-dropped 𝓛 2 (plain (λ _. usize)) yes (λ κs x w. refl),
        (Goes-dropped 𝓛 2 (plain (λ _. usize)) yes (λ κs x w. refl), tt),
      ),
    )
    (f.Key.name (args E)) e (code.unfolded 𝓤 𝓛.H 𝓜 𝓡 wired (X, tt))
    (λ κs. (mut_vals, (uint_vals w64, (uint_vals w64, tt))))
    (λ κs. (mut_Tells (named 0) κs.0 (Rw E), (uint_Tells w64, (uint_Tells w64, tt))))
    (λ κs qs bounds a _ are.
    let rb = a.0.ref_ptr.0 in let ro = a.0.ref_ptr.1 in let d = a.0.now in let i = a.1.0 in
    let n = a.1.1.0 in
    let vss : Vals (f.ended X).signature κs =
    (mut_vals a.0, (uint_vals w64 i, (uint_vals w64 n, tt))) in
    let y : W.Ghost = ((κs, qs, bounds, a, vss), tt) in
    qed 𝓛 (((‵ (flft κs.0 qs.0) ⊛ ‵ (flft κs.1.0 qs.1.0) ⊛ ‵ ftrue)
    ⊛ ‵ (owns (types_at (f.ended X).signature.params κs) a vss))
    ∷ (raw (fact 𝓤 (κs.1.0 ⊑ X.lives)) ⊛ raw (fact 𝓤 (i + n ≤ length d.places))) ∷ []) ∵
    move ! (1 ∷ []) $ split ! $ drop ! $ heard ! (i + n ≤ length d.places) (λ within.
    split ! $ split ! $ move ! (2 ∷ []) $ fsplit ! $ fsplit3 ! $ keep ! (1 ∷ 2 ∷ 4 ∷ 5 ∷ []) $
    enter ! _ _ _ _ _ $
    alloc_all ! (λ l.
    pass_all ! refl (
      (tt, tt),
      ((tt, record { fits = are.1.0.1 }), ((tt, record { fits = are.1.1.0.1 }), tt)),
    ) $
    opens_places E ! tt d i n rb ro within (λ b o p small far.
    let had = take n (drop_l i d.places) in
    let many : length had
    ≡ n = omega (arith, length-take n (drop_l i d.places), length-drop i d.places) in
    use1 𝓛 (‵ (froom (ty_array (elτ E) (length had)) b (at E 𝓛 b o i))) (all_room E 𝓛 b o had i) $
    rewrite ! 0 (λ (k : ℕ). ‵ (froom (ty_array (elτ E) k) b (at E 𝓛 b o i))) many refl $
    use1 𝓛 (‵ (SpotsFrom E 𝓛 b o i (replicate n None))) (empties E 𝓛 b o n i) $
    closes_places E ! tt d i n rb ro b o (replicate n None) (length-replicate n None) within p
    small $
    sets ! (of_opd ! (unit_lit !)) refl (tt, tt) $
    returns ! (look_at ! 0 refl) $ free_all ! refl $
    suffices ! _ (ends_at 𝓛 (f.ended X) stayed c y vunit tt
    (holding d (with_run d.places i n (replicate n None)), (tt, (tt, tt)))
    (tt, (tt, (tt, tt)))) $ says ! (refl, refl) $
    feq_i ! _ (mut_vals a.0) _ refl $ fjoin3 ! $ nothing ! $ nothing ! $ fjoin ! $ nothing ! $
    fjoin ! $ move ! (1 ∷ 0 ∷ []) $ fjoin ! $
    move ! (1 ∷ 2 ∷ []) $ join ! $ feq_i ! _ (vunit ∷ []) _ refl $ keep ! (1 ∷ 2 ∷ 0 ∷ []) $
    done !))))
