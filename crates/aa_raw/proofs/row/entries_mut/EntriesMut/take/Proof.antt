-- One entry is taken, for the whole lifetime of the borrow. Assumes `Logic`.
use Rattle.aa_raw.proofs.{ !, Args, Fml, Goes-dropped, Goes-ref, Incl-trans, IsFilled, List, MutRef, None, Ptr, RattleType, ShrRef, Stays, Struct, Tuple, Val, Vals, Valss, [], a_type, addr, after, agg, alloc_all, and_then, ap, arith, at_ret, bin, block_ptr, blocks, cell_at, closes, done, ends_at, enter, env, exec, fact, feq_i, feq_l, filled_within, first, fjoin, fjoin3, fld, flft, flt_l, fpack, fpick, free_all, fsplit, fsplit3, ftrue, full_share, get, get_or, heard, id⊢, in_a_block, inst_fn, is, join, keep, layouts, length, load, look_at, look_in, lose as drop, move, mut_Tells, mut_vals, named, named_lft, never, no_more, nothing, of_list, of_opd, opens, owns, param, pass_all, plain, proved, ptr_val, pure_i, qed, raw, refl, returns, rewrite, says_three, sets, sets_last, shape, size_word, slice_set, split, stay_dropped, stay_ref, stop, sub, subst, suffices, sym, tables, through, times_below, tuple_type, type_size, types_at, uint_Tells, uint_vals, uncapped, usize, value_of, vcons, vint, vnil, vptr, vstruct, w64, walk_of, whole, within, yes, ‵, ℕ, ◌$◌, ◌*◌, ◌++◌, ◌+◌, ◌<◌, ◌^◌, ◌∙◌, ◌∵◌, ◌∷◌, ◌≡◌, ◌⊑◌, ◌⊛◌}
use denote.Struct.Declared as Declared
use Rattle.aa_raw.proofs.EntriesTaken.{key_at, takes_entry, value_at}
use Rattle.aa_raw.specs.Entries.{Entry, entries_owned}
use Rattle.aa_raw.specs.contracts.row.entries_mut.EntriesMut as token
use Rattle.aa_raw.specs.contracts.row.entries_mut.EntriesMut.take as f
use Rattle.aa_raw.proofs.row.entries_mut.EntriesMut.take.Code as code

pub take_spec : {M : Type 1}
    → Rattle.aa_raw.proofs.row.entries_mut.EntriesMut.take.Statement.statement M
take_spec 𝓤 𝓛 𝓜 𝓡 wired X Y LX LY =
    let key : Args = layouts (a_type ∷ a_type ∷ []) (X, (Y, tt)) in
    let e = inst_fn key code.function in let K = param 0 X in let V = param 1 Y in
    let P = Entry K V in
    let T = f.ended X Y in
    let stayed : Stays T.signature.params T.kept = (
      stay_ref (0 ∷ []) tt (plain (λ κs. token.the_row (named_lft 4 1 tt κs) K V)),
      (stay_dropped (plain (λ _. usize)) yes, tt),
    ) in
    let c = f.clauses X Y 𝓛 𝓜.mem 𝓡.returns in let W = walk_of 𝓛 T stayed c in
    let 𝓣 = tables 𝓤 𝓛.H 𝓜 𝓡 𝓡.env in
    proved 𝓛 T stayed c 𝓜 𝓡 (
      Goes-ref 𝓛 4 0 tt (plain (λ κs. token.the_row (named_lft 4 1 tt κs) K V)),
      (Goes-dropped 𝓛 4 (plain (λ _. usize)) yes (λ κs x w. refl), tt),
    )
    (f.Key.name key) e (code.unfolded 𝓤 𝓛.H 𝓜 𝓡 wired (X, (Y, tt)))
    (λ κs. (mut_vals, (uint_vals w64, tt)))
    (λ κs. (
      mut_Tells (named 0) κs.0 (token.the_row (named_lft 4 1 tt κs) K V),
      (uint_Tells w64, tt),
    )) (λ κs qs bounds a _ are.
    let rb = a.0.ref_ptr.0 in let ro = a.0.ref_ptr.1 in let d = a.0.now in let i = a.1.0 in
    let κ = κs.1.0 in let q = qs.1.0 in
    let It : RattleType = token.the_row (named_lft 4 1 tt κs) K V in
    let vss : Vals T.signature κs = (mut_vals a.0, (uint_vals w64 i, tt)) in
    let y : W.Ghost = ((κs, qs, bounds, a, vss), tt) in
    qed 𝓛 (((‵ (flft κs.0 qs.0) ⊛ ‵ (flft κ q) ⊛ ‵ (flft κs.1.1.0 qs.1.1.0)
    ⊛ ‵ (flft κs.1.1.1.0 qs.1.1.1.0) ⊛ ‵ ftrue)
    ⊛ ‵ (owns (types_at T.signature.params κs) a vss))
    ∷ (raw (fact 𝓤 (κs.1.1.0 ⊑ X.lives)) ⊛ raw (fact 𝓤 (κs.1.1.1.0 ⊑ Y.lives))
    ⊛ raw (fact 𝓤 (IsFilled d.places i))) ∷ []) ∵
    move ! (1 ∷ []) $ split ! $
    heard ! (κs.1.1.0 ⊑ X.lives)
    (λ lives. split ! $ drop ! $ heard ! (IsFilled d.places i) (λ filled.
    let it = value_of (get_or d.places i None) filled in let k = it.0.0 in let w = it.0.1 in
    let inside = filled_within d.places i filled in
    split ! $ split ! $ move ! (1 ∷ []) $ split ! $ move ! (3 ∷ []) $ fsplit ! $ fsplit3 ! $
    keep ! (1 ∷ 2 ∷ 6 ∷ 4 ∷ 5 ∷ []) $
    enter ! _ _ _ _ _ $
    alloc_all ! (λ l. pass_all ! refl ((tt, tt), ((tt, record { fits = are.1.0.1 }), tt)) $
    opens ! tt It {h = d} rb ro
    (λ vs. move ! (1 ∷ []) $ fsplit ! $
    fpick ! (λ uss. fsplit ! $
    feq_l ! (λ one. fsplit ! $
    feq_l ! (λ isp. fsplit ! $ fpick ! (λ xs. fsplit ! $ feq_l ! (λ ism. drop ! $ drop ! $
    in_a_block ! d.ptr (λ p. entries_owned K V κ p d.name d.places) (id⊢ 𝓤 (never 𝓤))
    (λ b o lies. fsplit ! $ flt_l ! (λ small.
    let v : Val = vstruct (vcons (vptr b o) (vcons (vstruct vnil) vnil)) in
    let are_word : vs ≡ v ∷ [] = one
    ∙ ap (λ (ws : List Val). vstruct (of_list (ws ++ (uss.1.0 ++ []))) ∷ []) isp
    ∙ ap (λ (ws : List Val). vstruct (of_list ((ptr_val d.ptr ∷ []) ++ (ws ++ []))) ∷ []) ism
    ∙ ap (λ (p : Ptr). vstruct (vcons (ptr_val p) (vcons (vstruct vnil) vnil)) ∷ []) lies in
    let s : ℕ = type_size P in
    let far : i * s < 2 ^ 64 = omega
    (arith, times_below i (length d.places) s (2 ^ 63) (omega (arith, inside)) small) in
    let pk = i * s + o + key_at K V in let pv = i * s + o + value_at K V in
    move ! (1 ∷ []) $ rewrite ! 0 (λ (ws : List Val). ‵ (cell_at full_share It.mir ws rb ro))
    are_word refl $
    first ! $ blocks ! $
    sets ! (of_opd ! (load ! (through ! refl (fld ! refl (stop !)))
    (look_in ! 0 (sub ! 0 refl (whole !))))) refl (tt, tt) $
    sets ! (is ! (bin ! (get ! refl) (size_word !)
    (record { fits = subst (λ (n : ℕ). n < 2 ^ 64) (sym (uncapped i s far)) far }))
    (ap (vint w64) (uncapped i s far))) refl (tt, record { fits = far }) $
    sets_last ! (bin ! (get ! refl) (get ! refl) tt) refl (tt, tt) $
    exec ! 𝓣.C 𝓣.Λ (env e.locals l) (after 1 e.body) (at_ret (env e.locals l) (W.post y)) $
    sets ! (of_opd ! (get ! refl)) refl (tt, tt) $
    first ! $ blocks ! $ sets ! (addr ! (through ! refl (fld ! refl (stop !)))) refl (tt, tt) $
    sets ! (addr ! (through ! refl (fld ! refl (stop !)))) refl (tt, tt) $
    sets_last ! (agg ! (and_then ! (get ! refl) (and_then ! (get ! refl) (no_more !)))) refl
    (tt, (tt, (tt, tt))) $
    exec ! 𝓣.C 𝓣.Λ (env e.locals l) (after 3 e.body) (at_ret (env e.locals l) (W.post y)) $
    sets ! (of_opd ! (get ! refl)) refl (tt, (tt, (tt, tt))) $
    move ! (1 ∷ 5 ∷ []) $ fsplit ! $ takes_entry X Y LX LY 𝓛 b o d.places i inside k w it.1 ! tt
    (named 1) κ q d.name (Incl-trans bounds.1.1.1.0 lives) small (λ δ name.
    let new : It.Denot = record {
      ptr = block_ptr b o;
      mark = record {};
      name = name;
      tie = d.tie;
      places = slice_set d.places i None;
    } in
    let Ks = ShrRef (named 1) κ K in let Vs = MutRef (named 1) κ V in
    let out : Val = vstruct (vcons (vptr b pk) (vcons (vptr b pv) vnil)) in
    let r : (Tuple (Ks ∷ Vs ∷ [])).Denot = (
      record { ref_ptr = (b, pk); now = k },
      record { ref_ptr = (b, pv); ghost_name = δ; now = w },
    ) in
    move ! (2 ∷ []) $
    pure_i ! ((Struct (shape (token.the_type (named_lft 4 1 tt κs) K V))).own_val
    (block_ptr b o, (tt, tt)) (v ∷ [])) (λ vss. (tt, (tt, ((λ uss. (tt, tt)), tt))))
    ((vptr b o ∷ [], (vstruct vnil ∷ [], tt)), (refl, (refl, ((tt, (refl, tt)), tt)))) $
    fjoin ! $
    move ! (4 ∷ 0 ∷ 5 ∷ 6 ∷ 7 ∷ []) $ closes ! tt It new (v ∷ []) rb ro $
    move ! (3 ∷ 4 ∷ []) $ move ! (1 ∷ []) $ nothing ! $ move ! (1 ∷ 0 ∷ []) $ fjoin ! $
    move ! (1 ∷ 0 ∷ []) $ fjoin ! $ feq_i ! (List Val) (out ∷ []) (out ∷ []) refl $ fjoin ! $
    fpack ! (Valss (Ks ∷ Vs ∷ []))
    (within (Declared.shape (tuple_type (Ks ∷ Vs ∷ []))) (r.0, (r.1, tt)) (out ∷ []))
    (vptr b pk ∷ [], (vptr b pv ∷ [], tt)) $
    returns ! (look_at ! 0 refl) $ free_all ! refl $
    suffices ! _ (ends_at 𝓛 T stayed c y out r (new, (tt, tt)) (tt, (tt, tt))) $
    says_three ! (it.1, refl, refl) $
    move ! (1 ∷ 2 ∷ []) $ feq_i ! _ (mut_vals a.0) _ refl $ fjoin3 ! $ nothing ! $ nothing ! $
    fjoin ! $ move ! (1 ∷ 0 ∷ []) $ fjoin ! $
    move ! (3 ∷ 4 ∷ []) $ join ! $ move ! (3 ∷ 0 ∷ []) $ join ! $ done !)))))))))))))
