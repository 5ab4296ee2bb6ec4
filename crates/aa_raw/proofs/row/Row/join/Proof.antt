-- The places of a row that begins where another ends are appended to its own. Assumes `Logic`.
use Rattle.aa_raw.proofs.{ !, El, Fml, Goes-blank, Goes-ref, Ptr, R, Rw, Spot, SpotsFrom, Stays, Vals, WpFn, [], alloc_all, ap, args, arith, closes_row, done, ends_at, enter, fact, feq_i, fjoin, fjoin3, flft, free_all, from_ptr, fsplit, fsplit3, ftrue, heard, holding, inst_fn, join, join_spots, keep, length, length-append, look_at, lose as drop, move, mut_vals, no, nothing, of_opd, opens_row, owns, pass_all, plain, prop, proved_at, ptr_add, qed, raw, refl, regoal, returns, rewrite, row_had, same_spots, says, sets, split, stay_dropped, stay_ref, subst, suffices, sym, sz, tables, types_at, unit_lit, use2, vunit, walk_of, word, ‵, ◌$◌, ◌*◌, ◌++◌, ◌+◌, ◌<◌, ◌^◌, ◌∙◌, ◌∵◌, ◌∷◌, ◌≡◌, ◌⊑◌, ◌⊛◌}
use Rattle.aa_raw.specs.contracts.row.Row.join as f
use Rattle.aa_raw.proofs.row.Row.join.Code as code

pub join_spec : {M : Type 1} → Rattle.aa_raw.proofs.row.Row.join.Statement.statement M
join_spec 𝓤 𝓛 𝓜 𝓡 wired X LX =
    let E : El = record { row = X; laws = LX } in let e = inst_fn (args E) code.function in
    let stayed : Stays (f.ended E.row).signature.params (f.ended E.row).kept =
    (stay_ref (0 ∷ []) tt (plain (λ _. Rw E)), (stay_dropped (plain (λ _. Rw E)) no, tt)) in
    let c = f.clauses X 𝓛 𝓜.mem 𝓡.returns in let W = walk_of 𝓛 (f.ended X) stayed c in
    let 𝓣 = tables 𝓤 𝓛.H 𝓜 𝓡 𝓡.env in
    proved_at 𝓛 (f.ended X) stayed c 𝓜 𝓡 (
      Goes-ref 𝓛 2 0 tt (plain (λ _. Rw E)),
      (Goes-blank 𝓛 2 (plain (λ _. Rw E)) no (λ κs x w. tt), tt),
    )
    (f.Key.name (args E)) e (code.unfolded 𝓤 𝓛.H 𝓜 𝓡 wired (X, tt)) (λ z are.
    let κs = z.0.0 in let qs = z.0.1 in let a = z.0.3 in let us = z.0.4 in let rb = a.0.ref_ptr.0 in
    let ro = a.0.ref_ptr.1 in let d = a.0.now in let r = a.1.0 in
    let n = length d.places in let all = d.places ++ r.places in
    let Begins : Type 0 = r.ptr ≡ ptr_add (R E) n d.ptr in
    let Few : Type 0 = (n + length r.places) * sz E < 2 ^ 63 in
    let spelled : Vals (f.ended X).signature κs → W.Ghost = λ vss. ((κs, qs, z.0.2, a, vss), z.1) in
    qed 𝓛 (((‵ (flft κs.0 qs.0) ⊛ ‵ (flft κs.1.0 qs.1.0) ⊛ ‵ ftrue)
    ⊛ ‵ (owns (types_at (f.ended X).signature.params κs) a us))
    ∷ (raw (fact 𝓤 (κs.1.0 ⊑ X.lives)) ⊛ raw (fact 𝓤 Begins) ⊛ raw (fact 𝓤 Few)) ∷ []) ∵
    move ! (1 ∷ []) $ split ! $ drop ! $ split ! $ heard ! Begins (λ begins. heard ! Few (λ few.
    split ! $ split ! $ move ! (2 ∷ []) $ fsplit ! $ fsplit3 ! $ move ! (3 ∷ []) $ fsplit ! $
    keep ! (0 ∷ 3 ∷ 4 ∷ 5 ∷ 6 ∷ []) $
    row_had (R E) ! r us.1.0 (λ rb' ro' lies spelt small'.
    let vss : Vals (f.ended X).signature κs = (mut_vals a.0, (word rb' ro' ∷ [], tt)) in
    let y = spelled vss in
    regoal ! (λ (uss : Vals (f.ended X).signature κs).
    prop (WpFn 𝓤 𝓛.H 𝓣.C 𝓣.Λ e (W.args (spelled uss)) (W.post (spelled uss))))
    (λ k. (are.0.0 k, (spelt k, tt))) refl $
    enter ! _ _ _ _ _ $ alloc_all ! (λ l. pass_all ! refl ((tt, tt), ((tt, (tt, tt)), tt)) $
    move ! (1 ∷ 2 ∷ 3 ∷ []) $
    opens_row E ! tt d rb ro (λ b o p small. sets ! (of_opd ! (unit_lit !)) refl (tt, tt) $
    move ! (5 ∷ []) $ rewrite ! 0 (λ (q : Ptr). ‵ (from_ptr E q r.places))
    (sym lies ∙ begins ∙ ap (ptr_add (R E) n) p) refl $
    rewrite ! 0 (λ (F : Fml). ‵ F) (same_spots E 𝓛 b o n 0 n r.places (omega arith)) refl $
    move ! (1 ∷ 0 ∷ []) $ use2 𝓛 (‵ (SpotsFrom E 𝓛 b o 0 all))
    (join_spots 𝓛 (Spot E 𝓛 b o) d.places r.places 0 n (omega arith)) $
    closes_row E ! tt d rb ro b o all p
    (subst (λ k. k * sz E < 2 ^ 63) (sym (length-append d.places r.places)) few) $
    returns ! (look_at ! 0 refl) $ free_all ! refl $
    suffices ! _ (ends_at 𝓛 (f.ended X) stayed c y vunit tt (holding d all, (tt, tt))
    (tt, (tt, tt))) $ says ! (refl, refl) $
    feq_i ! _ (mut_vals a.0) _ refl $ fjoin3 ! $ nothing ! $ nothing ! $ fjoin ! $
    move ! (1 ∷ 0 ∷ []) $ fjoin ! $
    move ! (1 ∷ 2 ∷ []) $ join ! $ feq_i ! _ (vunit ∷ []) _ refl $ keep ! (1 ∷ 2 ∷ 0 ∷ []) $
    done !))))))
