-- The heads of a map, their number in use, and the entries in its places, lent at once. Assumes
-- `Logic`.
use Rattle.aa_raw.proofs.Common.{ !, Goes-spent_ref, Stays, Struct, Val, Vals, Valss, [], addr, agg, alloc_all, and_then, ap, await, block_ptr, calls_at, done, ends_at, enter, fact, feq_i, fjoin, fjoin3, fld, flft, fpack, frame, framed, follows, free_all, fsplit, fsplit3, ftrue, get, group, heard, hide, id⊢, inst_fn, join, keep, lands_as, later, look_at, lose as drop, move, mut_Tells, mut_ref_to, mut_vals, named, no, no_more, nothing, of_opd, owns, pass_all, pick, plain, proved, qed, raw, refl, returns, sets, some, split, stay_dropped, stop, suffices, tables, through, tuple_type, types_at, use0, use1, use2, vcons, vnil, vptr, vstruct, walk_of, within, ‵, ◌$◌, ◌+◌, ◌∵◌, ◌∷◌, ◌≡◌, ◌⊑◌, ◌⊛◌, fpick, in_a_block, never, of_list, ptr_val, pure_i, shape, feq_l, Ptr, ◌++◌, ◌∙◌, subst, sym, fat, flt_i, load, look, usize, vint, ◌^◌}
use base.Fml.{Incl-refl, Incl-trans}
use base.Fraction.{full_share}
use base.Logic.{emp}
use base.Share
use contract.Fact.{fact_i}
use denote.Memory.{part_at}
use denote.Param.{bounded}
use denote.Plain.{uint_in, uint_out}
use denote.Ref.{ShrRef}
use denote.RattleType.{RattleType}
use denote.Signature.{named_lft}
use denote.Struct.Declared as Declared
use denote.Triple.Clauses.{lasts}
use denote.Triple.Spec.{triple_of}
use mir.Syntax.{Args, a_type, dcons, dnil, ty_int, w64}
use types.Run.{well_typed}
use Rattle.aa_raw.specs.Entries.{entries_owned}
use Rattle.aa_raw.specs.EntriesLends.{with_values_of}
use Rattle.aa_raw.specs.contracts.row.entries_mut.EntriesMut as token
use Rattle.aa_raw.specs.contracts.row.entries_mut.RawVec+tuple2+K+V+A.entries_mut as callee
use Rattle.aa_raw.proofs.row.entries_mut.RawVec+tuple2+K+V+A.entries_mut.Met.{met as callee_met}
use Rattle.allocator_api2.proofs.vec.Vec.TheLaws as vec_laws
use Rattle.core.proofs.mem.Facts.{says_two}
use Rattle.std.specs.Prelude.{map, take}
use Rattle.aa_ordered.proofs.ArenaLent.{A, Bk, Ix, K, V, block_at, index_at, used_at, the_index_laws}
use Rattle.aa_ordered.proofs.MapLent.{Mp, begins_lent, ends_lent, leaves_at}
use Rattle.aa_ordered.proofs.leaves.Head.TheLaws as head_laws
use Rattle.aa_ordered.specs.Arena.{list_of, IsArena}
use Rattle.aa_ordered.specs.Capacity.{capacity_of}
use Rattle.aa_ordered.specs.IterMut.{IsLent}
use Rattle.aa_ordered.specs.Ranges.{items_of}
use Rattle.aa_ordered.specs.Entries.{IsOrdered}
use Rattle.aa_ordered.specs.contracts.leaves.Head as head
use denote.Ref.{MutBor}
use denote.Steps.{only}
use mathlib.Core.List.{List}
use Rattle.aa_ordered.specs.contracts.map.OrderedMap.lend as f
use Rattle.aa_ordered.proofs.map.OrderedMap.lend.Code as code

pub lend_spec : {M : Type 1} → Rattle.aa_ordered.proofs.map.OrderedMap.lend.Statement.statement M
lend_spec 𝓤 𝓛 𝓜 𝓡 wired X Y Z LX LY LZ co cod eq eqd ce ced cp cpd g gd dd mco meq mce mcp met md =
    let key : Args = bounded (a_type ∷ a_type ∷ a_type ∷ []) (X, (Y, (Z, tt))) (dcons cod (dcons eqd (dcons ced (dcons cpd (dcons gd (dcons dd dnil)))))) in
    let e = inst_fn key code.function in
    let T = f.ended X Y Z co cod eq eqd ce ced cp cpd g gd dd in let R = Mp X Y Z co ce cp g in let B = Bk X Y Z g in let I = Ix X Y Z g in
    let stayed : Stays T.signature.params T.kept = (stay_dropped (mut_ref_to (0 ∷ []) tt (plain (λ _. R))) no, tt) in
    let c = f.clauses X Y Z co cod eq eqd ce ced cp cpd g gd dd 𝓛 𝓜.mem 𝓡.returns in let W = walk_of 𝓛 T stayed c in let 𝓣 = tables 𝓤 𝓛.H 𝓜 𝓡 𝓡.env in
    proved 𝓛 T stayed c 𝓜 𝓡 (Goes-spent_ref 𝓛 4 (0 ∷ []) tt (plain (λ _. R)), tt)
    (f.Key.name key) e (code.unfolded 𝓤 𝓛.H 𝓜 𝓡 wired (X, (Y, (Z, tt))) cod eqd ced cpd gd dd)
    (λ κs. (mut_vals, tt)) (λ κs. (mut_Tells (named 0) κs.0 R, tt)) (λ κs qs bounds a _ are.
    let rb = a.0.ref_ptr.0 in let ro = a.0.ref_ptr.1 in let d = a.0.now in let γ = a.0.ghost_name in let κ = κs.0 in let q = qs.0 in
    let κX = κs.1.0 in let κY = κs.1.1.0 in let κZ = κs.1.1.1.0 in let qX = qs.1.0 in let qY = qs.1.1.0 in let qZ = qs.1.1.1.0 in
    let vss : Vals T.signature κs = (mut_vals a.0, tt) in let y : W.Ghost = ((κs, qs, bounds, a, vss), tt) in
    qed 𝓛 (((‵ (flft κ q) ⊛ ‵ (flft κX qX) ⊛ ‵ (flft κY qY) ⊛ ‵ (flft κZ qZ) ⊛ ‵ ftrue) ⊛ ‵ (owns (types_at T.signature.params κs) a vss))
    ∷ (raw (fact 𝓤 (κX ⊑ X.lives)) ⊛ raw (fact 𝓤 (κY ⊑ Y.lives)) ⊛ raw (fact 𝓤 (κZ ⊑ Z.lives)) ⊛ raw (emp 𝓤)) ∷ []) ∵
    move ! (1 ∷ []) $ split ! $ heard ! (κX ⊑ X.lives) (λ lx. split ! $ heard ! (κY ⊑ Y.lives) (λ ly. split ! $ heard ! (κZ ⊑ Z.lives) (λ lz. drop ! $
    split ! $ split ! $ move ! (2 ∷ []) $ fsplit ! $ fsplit3 ! $ keep ! (1 ∷ 2 ∷ 4 ∷ 5 ∷ []) $
    enter ! _ _ _ _ _ $ alloc_all ! (λ l. pass_all ! refl ((tt, tt), tt) $
    begins_lent X Y Z co ce cp g LX LY LZ 𝓛 rb ro ! tt κ q γ d (λ x tie δ n. let t = x.2.0 in
    let ao = ro + leaves_at X Y Z co ce cp g in let p = ao + block_at X Y Z g in let pi = ao + index_at X Y Z g in let half = Share.right q in
    -- the number of lists is read
    let pu = ao + used_at X Y Z g in
    move ! (7 ∷ []) $ fsplit ! $
    use1 𝓛 (‵ (fat full_share (ty_int w64) rb pu (vint w64 t.used)))
    (uint_out 𝓛 full_share w64 t.used rb pu) $ well_typed ! (λ ok. let fit = ok.1.fits in
    sets ! (of_opd ! (load ! (through ! refl (fld ! refl (fld ! refl (stop !)))) (look ! 0 refl)))
    refl (tt, record { fits = fit }) $
    use1 𝓛 (‵ (part_at usize full_share t.used rb pu)) (uint_in 𝓛 full_share w64 t.used rb pu) $
    fjoin ! $ move ! (1 ∷ 2 ∷ 3 ∷ 4 ∷ 5 ∷ 6 ∷ 7 ∷ 0 ∷ []) $
    sets ! (addr ! (through ! refl (fld ! refl (fld ! refl (stop !))))) refl (tt, tt) $
    let Is₀ = ShrRef (named 0) κ I in let Tok : RattleType = token.the_row (named_lft 4 0 tt κs) (K X Y Z g) (V X Y Z g) in
    move ! (3 ∷ 2 ∷ []) $ use2 𝓛 (later (‵ (I.shr_at t.heads rb pi κ) ⊛ ‵ (flft κ half)))
    ((the_index_laws X Y Z g LX LY LZ 𝓛 rb ao).shares 𝓛 t.heads κ ((κ, half) ∷ []) rb pi
    (vec_laws.the_within head.the_row (A X Y Z g) g κ (head_laws.the_within κ) (Incl-trans bounds.1.1.0 lz)) (Incl-refl κ)) $ await ! tt $ split ! $
    hide ! $ feq_i ! (List Val) (vptr rb pi ∷ []) (vptr rb pi ∷ []) refl $ fjoin ! $
    -- [the `&` to the heads; half of the token; the name of the block and its borrow; what closes the loan; what the arena follows; the other tokens]
    let G = triple_of 𝓛 (callee.signature X Y Z g gd dd) (callee.spec X Y Z g gd dd 𝓛 𝓜.mem 𝓡.returns) in
    let given : MutBor B.Denot = record { ref_ptr = (rb, p); ghost_name = δ; now = t.block } in
    let z : G.Ghost = (((κ, (κX, (κY, (κZ, tt)))), (half, (qX, (qY, (qZ, tt)))), (bounds.0, (bounds.1.0, (bounds.1.1.0, tt))), (given, tt), (vptr rb p ∷ [], tt)), tt) in
    move ! (1 ∷ 12 ∷ []) $ join ! $
    move ! (2 ∷ 3 ∷ []) $ feq_i ! (List Val) (vptr rb p ∷ []) (vptr rb p ∷ []) refl $ fjoin3 ! $ nothing ! $ move ! (1 ∷ 0 ∷ []) $ join ! $ move ! (1 ∷ 0 ∷ []) $ join ! $
    use0 𝓛 (raw (emp 𝓤)) (id⊢ 𝓤 (emp 𝓤)) $ use0 𝓛 (raw (fact 𝓤 (κZ ⊑ Z.lives))) (fact_i 𝓤 (κZ ⊑ Z.lives) (emp 𝓤) lz) $ join ! $
    use0 𝓛 (raw (fact 𝓤 (κY ⊑ Y.lives))) (fact_i 𝓤 (κY ⊑ Y.lives) (emp 𝓤) ly) $ join ! $ use0 𝓛 (raw (fact 𝓤 (κX ⊑ X.lives))) (fact_i 𝓤 (κX ⊑ X.lives) (emp 𝓤) lx) $ join ! $
    move ! (1 ∷ 0 ∷ []) $ use2 𝓛 (raw (G.pre z)) (id⊢ 𝓤 _) $
    calls_at ! (framed 𝓤 𝓛.H 𝓜 𝓣) G (callee_met 𝓤 𝓛 𝓜 𝓡 (code.calls-aa_raw::row::entries_mut::RawVec+tuple2+K+V+A::entries_mut 𝓡.env wired) X Y Z LX LY LZ g gd dd met md) z (and_then ! (get ! refl) (no_more !)) (λ v.
    use1 𝓛 (later (some (λ (r : Tok.Denot). ((‵ (flft κ half) ⊛ ‵ (flft κX qX) ⊛ ‵ (flft κY qY) ⊛ ‵ (flft κZ qZ) ⊛ ‵ ftrue) ⊛ ‵ (Tok.own_val r (v ∷ [])))
    ⊛ some (λ (ws : Unit {0} × Unit {0}). ‵ (lasts (callee.ended X Y Z g gd dd) z.0.0 z.0.3 ws) ⊛ (‵ (follows B B δ r.tie (with_values_of t.block)) ⊛ raw (fact 𝓤 (r.places ≡ t.block.places))))))) (id⊢ 𝓤 _) $
    await ! tt $ pick ! (λ r. split ! $ split ! $ move ! (2 ∷ []) $ pick ! (λ ws. split ! $ drop ! $ split ! $ move ! (1 ∷ []) $ heard ! (r.places ≡ t.block.places) (λ same.
    -- [what the block follows; the tokens; the entries; the other tokens; the `&` to the heads; what closes the loan; what the arena follows]
    move ! (1 ∷ []) $ split ! $
    move ! (2 ∷ 5 ∷ 6 ∷ 7 ∷ 8 ∷ 9 ∷ 10 ∷ 11 ∷ 0 ∷ []) $
    ends_lent X Y Z co ce cp g LX LY LZ 𝓛 rb ro d x κ δ r.tie tie (R.coded.code d) ! tt n q $
    -- [the token; the others; the entries; the `&` to the heads; what the arena follows]
    join ! $
    move ! (1 ∷ []) $ fsplit ! $ fpick ! (λ uss. fsplit ! $ feq_l ! (λ one. fsplit ! $ feq_l ! (λ isp. fsplit ! $ fpick ! (λ xs. fsplit ! $ feq_l ! (λ ism. drop ! $ drop ! $
    in_a_block ! r.ptr (λ p. entries_owned (K X Y Z g) (V X Y Z g) κ p r.name r.places) (id⊢ 𝓤 (never 𝓤)) (λ bl o lies.
    let out : Val = vstruct (vcons (vptr bl o) (vcons (vstruct vnil) vnil)) in
    let is_word : v ∷ [] ≡ out ∷ [] = one ∙ ap (λ (ws : List Val). vstruct (of_list (ws ++ (uss.1.0 ++ []))) ∷ []) isp ∙ ap (λ (ws : List Val). vstruct (of_list ((ptr_val r.ptr ∷ []) ++ (ws ++ []))) ∷ []) ism
    ∙ ap (λ (p : Ptr). vstruct (vcons (ptr_val p) (vcons (vstruct vnil) vnil)) ∷ []) lies in
    let r' : Tok.Denot = record { ptr = block_ptr bl o; mark = record {}; name = r.name; tie = tie; places = r.places } in
    pure_i ! ((Struct (shape (token.the_type (named_lft 4 0 tt κs) (K X Y Z g) (V X Y Z g)))).own_val (block_ptr bl o, (tt, tt)) (out ∷ [])) (λ vss. (tt, (tt, ((λ uss. (tt, tt)), tt)))) ((vptr bl o ∷ [], (vstruct vnil ∷ [], tt)), (refl, (refl, ((tt, (refl, tt)), tt)))) $ fjoin ! $
    let at_heads : Is₀.Denot = record { ref_ptr = (rb, pi); now = t.heads } in let both : Val = vstruct (vcons (vptr rb pi) (vcons (vint w64 t.used) (vcons out vnil))) in
    let lists : map (list_of r.places) (take t.used t.heads.items) ≡ x.0.leaves.lists = ap (λ cs. map (list_of cs) (take t.used t.heads.items)) same ∙ ap (λ u. u.lists) x.2.1.0 in
    let lent : IsLent r.places t.heads.items t.used d = record {
      arena = subst (λ cs. IsArena cs t.heads.items t.used) (sym same) x.2.1.1;
      entries = ap items_of lists ∙ ap (λ (u : R.Denot). u.entries) x.1.0;
      room = ap (λ u. capacity_of u.room) x.2.1.0 ∙ ap (λ (u : R.Denot). u.capacity) x.1.0;
    } in
    let in_order : IsOrdered co.cmp d.entries = subst (λ (u : R.Denot). IsOrdered co.cmp u.entries) x.1.0 x.1.1.ordered in
    move ! (2 ∷ []) $ move ! (1 ∷ []) $ nothing ! $ move ! (1 ∷ 0 ∷ []) $ fjoin ! $
    let count = vint w64 t.used in
    flt_i ! t.used (2 ^ 64) fit $ feq_i ! (List Val) (count ∷ []) (count ∷ []) refl $ fjoin ! $ fjoin ! $
    move ! (1 ∷ 0 ∷ []) $ fjoin ! $ feq_i ! (List Val) (both ∷ []) (both ∷ []) refl $ fjoin ! $
    fpack ! (Valss (Is₀ ∷ usize ∷ Tok ∷ []))
    (within (Declared.shape (tuple_type (Is₀ ∷ usize ∷ Tok ∷ []))) (at_heads, (t.used, (r', tt))) (both ∷ []))
    (vptr rb pi ∷ [], (count ∷ [], (out ∷ [], tt))) $
    lands_as ! (ap only is_word) refl (tt, (tt, (tt, tt))) $
    sets ! (addr ! (through ! refl (fld ! refl (fld ! refl (stop !))))) refl (tt, tt) $ sets ! (of_opd ! (get ! refl)) refl (tt, (tt, (tt, tt))) $
    sets ! (agg ! (and_then ! (get ! refl) (and_then ! (get ! refl) (and_then ! (get ! refl) (no_more !)))))
    refl (tt, (tt, (record { fits = fit }, ((tt, (tt, tt)), tt)))) $
    returns ! (look_at ! 0 refl) $ free_all ! refl $ suffices ! _ (ends_at 𝓛 T stayed c y both (at_heads, t.used, r') (tt, tt) (tt, tt)) $
    move ! (1 ∷ 0 ∷ []) $ nothing ! $ nothing ! $ fjoin ! $ move ! (1 ∷ 0 ∷ []) $ group ! 3 $ frame ! $ says_two ! (lent, in_order) $ done !)))))))))))))))))
