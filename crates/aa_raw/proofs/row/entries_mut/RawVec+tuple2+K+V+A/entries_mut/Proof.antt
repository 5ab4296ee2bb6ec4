-- The entries of a block, lent at once. Assumes `Logic`.
use Rattle.aa_raw.proofs.{ !, Args, Goes-spent_ref, MutRef, RattleType, Stays, Struct, Val, Vals, [], a_type, after, agg, alloc_all, and_then, at_ret, block_ptr, bounded, dcons, dnil, done, ends_at, enter, env, exec, fact, feq_i, first, fjoin, fld, flft, frame, free_all, fsplit, fsplit3, ftrue, get, group, heard, inst_fn, join, keep, load, look_at, look_in, lose as drop, move, mut_Tells, mut_ref_to, mut_vals, named, named_lft, no, no_more, nothing, of_opd, owns, pass_all, plain, proved, pure_i, qed, raw, refl, returns, says, sets, sets_last, shape, split, stay_dropped, stop, sub, suffices, tables, through, types_at, vcons, vnil, vptr, vstruct, walk_of, whole, ‵, ◌$◌, ◌∵◌, ◌∷◌, ◌⊑◌, ◌⊛◌}
use Rattle.aa_raw.proofs.EntriesLent.{Bk, K, V, lends_all, opens_block}
use Rattle.aa_raw.specs.contracts.row.entries_mut.EntriesMut as token
use Rattle.aa_raw.specs.contracts.row.entries_mut.RawVec+tuple2+K+V+A.entries_mut as f
use Rattle.aa_raw.proofs.row.entries_mut.RawVec+tuple2+K+V+A.entries_mut.Code as code

pub entries_mut_spec : {M : Type 1}
    → Rattle.aa_raw.proofs.row.entries_mut.RawVec+tuple2+K+V+A.entries_mut.Statement.statement M
entries_mut_spec 𝓤 𝓛 𝓜 𝓡 wired X Y Z LX LY LZ g dict dd met md =
    let key : Args = bounded (a_type ∷ a_type ∷ a_type ∷ []) (X, (Y, (Z, tt)))
    (dcons dict (dcons dd dnil)) in let e = inst_fn key code.function in
    let T = f.ended X Y Z g dict dd in let B = Bk X Y Z g in
    let stayed : Stays T.signature.params T.kept =
    (stay_dropped (mut_ref_to (0 ∷ []) tt (plain (λ _. B))) no, tt) in
    let c = f.clauses X Y Z g dict dd 𝓛 𝓜.mem 𝓡.returns in let W = walk_of 𝓛 T stayed c in
    let 𝓣 = tables 𝓤 𝓛.H 𝓜 𝓡 𝓡.env in
    proved 𝓛 T stayed c 𝓜 𝓡 (Goes-spent_ref 𝓛 4 (0 ∷ []) tt (plain (λ _. B)), tt)
    (f.Key.name key) e (code.unfolded 𝓤 𝓛.H 𝓜 𝓡 wired (X, (Y, (Z, tt))) dict dd)
    (λ κs. (mut_vals, tt)) (λ κs. (mut_Tells (named 0) κs.0 B, tt)) (λ κs qs bounds a _ are.
    let rb = a.0.ref_ptr.0 in let ro = a.0.ref_ptr.1 in let d = a.0.now in let γ = a.0.ghost_name in
    let κ = κs.0 in let q = qs.0 in
    let vss : Vals T.signature κs = (mut_vals a.0, tt) in
    let y : W.Ghost = ((κs, qs, bounds, a, vss), tt) in
    qed 𝓛 (((‵ (flft κ q) ⊛ ‵ (flft κs.1.0 qs.1.0) ⊛ ‵ (flft κs.1.1.0 qs.1.1.0)
    ⊛ ‵ (flft κs.1.1.1.0 qs.1.1.1.0) ⊛ ‵ ftrue)
    ⊛ ‵ (owns (types_at T.signature.params κs) a vss))
    ∷ (raw (fact 𝓤 (κs.1.0 ⊑ X.lives)) ⊛ raw (fact 𝓤 (κs.1.1.0 ⊑ Y.lives))
    ⊛ raw (fact 𝓤 (κs.1.1.1.0 ⊑ Z.lives)) ⊛ raw (base.Logic.emp 𝓤)) ∷ []) ∵
    move ! (1 ∷ []) $ drop ! $ split ! $ split ! $ move ! (2 ∷ []) $ fsplit ! $ fsplit3 ! $
    keep ! (1 ∷ 2 ∷ 4 ∷ 5 ∷ []) $
    enter ! _ _ _ _ _ $ alloc_all ! (λ l. pass_all ! refl ((tt, tt), tt) $
    opens_block X Y Z LX LY LZ g 𝓛 rb ro ! tt d (λ t seen b o lies small.
    sets ! (of_opd ! (load ! (through ! refl (fld ! refl (fld ! refl (stop !))))
    (look_in ! 1 (sub ! 0 refl (whole !))))) refl (tt, tt) $
    sets ! (agg ! (no_more !)) refl (tt, tt) $
    sets ! (agg ! (and_then ! (get ! refl) (and_then ! (get ! refl) (no_more !)))) refl
    (tt, (tt, (tt, tt))) $
    lends_all X Y Z LX LY LZ g 𝓛 rb ro d t seen b o lies small ! tt κ q γ (B.coded.code d)
    (B.coded.code d) (λ tie name.
    let R : RattleType = token.the_row (named_lft 4 0 tt κs) (K X Y Z g) (V X Y Z g) in
    let r : R.Denot = record {
      ptr = block_ptr b o;
      mark = record {};
      name = name;
      tie = tie;
      places = d.places;
    } in
    let v : Val = vstruct (vcons (vptr b o) (vcons (vstruct vnil) vnil)) in
    pure_i ! ((Struct
    (shape (token.the_type (named_lft 4 0 tt κs) (K X Y Z g) (V X Y Z g)))).own_val
    (block_ptr b o, (tt, tt)) (v ∷ [])) (λ vss. (tt, (tt, ((λ uss. (tt, tt)), tt))))
    ((vptr b o ∷ [], (vstruct vnil ∷ [], tt)), (refl, (refl, ((tt, (refl, tt)), tt)))) $
    fjoin ! $
    returns ! (look_at ! 0 refl) $ free_all ! refl $
    suffices ! _ (ends_at 𝓛 T stayed c y v r (tt, tt) (tt, tt)) $
    move ! (1 ∷ 3 ∷ []) $ join ! $ nothing ! $ nothing ! $ fjoin ! $ move ! (1 ∷ 0 ∷ []) $
    group ! 3 $ frame ! $ says ! refl $ done !))))
