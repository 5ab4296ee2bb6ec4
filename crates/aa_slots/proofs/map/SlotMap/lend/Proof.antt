-- The slots of a map and the values in its places, lent at once. Assumes `Logic`.
use Rattle.aa_raw.proofs.Common.{ !, Goes-spent_ref, Stays, Struct, Val, Vals, Valss, [], addr, agg, alloc_all, and_then, ap, await, block_ptr, calls_at, done, ends_at, enter, fact, feq_i, fjoin, fjoin3, fld, flft, fpack, frame, framed, follows, free_all, fsplit, fsplit3, ftrue, get, group, heard, hide, id⊢, inst_fn, join, keep, lands_as, later, look_at, lose as drop, move, mut_Tells, mut_ref_to, mut_vals, named, no, no_more, nothing, of_opd, owns, pass_all, pick, plain, proved, qed, raw, refl, returns, sets, some, split, stay_dropped, stop, suffices, tables, through, tuple_type, types_at, use0, use1, use2, vcons, vnil, vptr, vstruct, walk_of, within, ‵, ◌$◌, ◌+◌, ◌∵◌, ◌∷◌, ◌≡◌, ◌⊑◌, ◌⊛◌, fpick, in_a_block, never, of_list, ptr_val, pure_i, shape, feq_l, Ptr, ◌++◌, ◌∙◌, subst, sym}
use base.Fml.{Incl-refl, Incl-trans}
use base.Logic.{emp}
use base.Share
use contract.BorrowLft.{⊑_static}
use contract.Fact.{fact_i}
use denote.Builtin.{unit}
use denote.Param.{bounded}
use denote.Ref.{ShrRef}
use denote.RattleType.{RattleType}
use denote.Signature.{named_lft}
use denote.Struct.Declared as Declared
use denote.Triple.Clauses.{lasts}
use denote.Triple.Spec.{triple_of}
use mir.Syntax.{Args, a_type, dcons, dnil}
use Rattle.aa_raw.specs.Entries.{entries_owned}
use Rattle.aa_raw.specs.EntriesLends.{with_values_of}
use Rattle.aa_raw.specs.contracts.row.entries_mut.EntriesMut as token
use Rattle.aa_raw.specs.contracts.row.entries_mut.RawVec+tuple2+K+V+A.entries_mut as callee
use Rattle.aa_raw.proofs.row.entries_mut.RawVec+tuple2+K+V+A.entries_mut.Met.{met as callee_met}
use Rattle.allocator_api2.proofs.vec.Vec.TheLaws as vec_laws
use Rattle.allocator_api2.specs.contracts.vec.Vec as vec
use Rattle.core.proofs.option.Option.TheLaws as option_laws
use Rattle.core.proofs.mem.Facts.{says_two}
use Rattle.aa_slots.proofs.Lent.{A, Bk, Ix, Mp, V, begins_lent, block_at, ends_lent, index_at, the_index_laws, unit_ok}
use Rattle.aa_slots.proofs.slots.Slot.TheLaws as slot_laws
use Rattle.aa_slots.specs.Inside.{seen, states_of, AreHeld}
use Rattle.aa_slots.specs.contracts.slots.Slot as slot
use denote.Ref.{MutBor}
use denote.Steps.{only}
use mathlib.Core.List.{List}
use Rattle.aa_slots.specs.contracts.map.SlotMap.lend as f
use Rattle.aa_slots.proofs.map.SlotMap.lend.Code as code

pub lend_spec : {M : Type 1} → Rattle.aa_slots.proofs.map.SlotMap.lend.Statement.statement M
lend_spec 𝓤 𝓛 𝓜 𝓡 wired Y Z X LY LZ LX g gd dd met md =
    let key : Args = bounded (a_type ∷ a_type ∷ a_type ∷ []) (Y, (Z, (X, tt))) (dcons gd (dcons dd dnil)) in
    let e = inst_fn key code.function in
    let T = f.ended Y Z X g gd dd in let R = Mp Y Z X g in let B = Bk Y Z X g in let I = Ix Y Z X g in
    let stayed : Stays T.signature.params T.kept = (stay_dropped (mut_ref_to (0 ∷ []) tt (plain (λ _. R))) no, tt) in
    let c = f.clauses Y Z X g gd dd 𝓛 𝓜.mem 𝓡.returns in let W = walk_of 𝓛 T stayed c in let 𝓣 = tables 𝓤 𝓛.H 𝓜 𝓡 𝓡.env in
    proved 𝓛 T stayed c 𝓜 𝓡 (Goes-spent_ref 𝓛 4 (0 ∷ []) tt (plain (λ _. R)), tt)
    (f.Key.name key) e (code.unfolded 𝓤 𝓛.H 𝓜 𝓡 wired (Y, (Z, (X, tt))) gd dd)
    (λ κs. (mut_vals, tt)) (λ κs. (mut_Tells (named 0) κs.0 R, tt)) (λ κs qs bounds a _ are.
    let rb = a.0.ref_ptr.0 in let ro = a.0.ref_ptr.1 in let d = a.0.now in let γ = a.0.ghost_name in let κ = κs.0 in let q = qs.0 in
    let κY = κs.1.0 in let κZ = κs.1.1.0 in let κX = κs.1.1.1.0 in let qY = qs.1.0 in let qZ = qs.1.1.0 in let qX = qs.1.1.1.0 in let half_Y = Share.left qY in let rest_Y = Share.right qY in
    let vss : Vals T.signature κs = (mut_vals a.0, tt) in let y : W.Ghost = ((κs, qs, bounds, a, vss), tt) in
    qed 𝓛 (((‵ (flft κ q) ⊛ ‵ (flft κY qY) ⊛ ‵ (flft κZ qZ) ⊛ ‵ (flft κX qX) ⊛ ‵ ftrue) ⊛ ‵ (owns (types_at T.signature.params κs) a vss))
    ∷ (raw (fact 𝓤 (κY ⊑ Y.lives)) ⊛ raw (fact 𝓤 (κZ ⊑ Z.lives)) ⊛ raw (fact 𝓤 (κX ⊑ X.lives)) ⊛ raw (emp 𝓤)) ∷ []) ∵
    move ! (1 ∷ []) $ split ! $ heard ! (κY ⊑ Y.lives) (λ ly. split ! $ heard ! (κZ ⊑ Z.lives) (λ lz. drop ! $
    split ! $ split ! $ move ! (2 ∷ []) $ fsplit ! $ fsplit3 ! $ keep ! (1 ∷ 2 ∷ 4 ∷ 5 ∷ []) $
    enter ! _ _ _ _ _ $ alloc_all ! (λ l. pass_all ! refl ((tt, tt), tt) $
    sets ! (addr ! (through ! refl (fld ! refl (stop !)))) refl (tt, tt) $
    begins_lent Y Z X g LY LZ LX 𝓛 rb ro ! tt κ q γ d (λ t viewed tie δ n.
    let p = ro + block_at Y Z X g in let pi = ro + index_at Y Z X g in let half = Share.right q in
    let Is₀ = ShrRef (named 0) κ I in let Tok : RattleType = token.the_row (named_lft 4 0 tt κs) unit (V Y Z X g) in
    move ! (3 ∷ 2 ∷ []) $ use2 𝓛 (later (‵ (I.shr_at t.slots rb pi κ) ⊛ ‵ (flft κ half)))
    ((the_index_laws Y Z X g LY LZ LX 𝓛 rb ro).shares 𝓛 t.slots κ ((κ, half) ∷ []) rb pi
    (option_laws.the_within (vec.the_row slot.the_row (A Y Z X g) g) κ (vec_laws.the_within slot.the_row (A Y Z X g) g κ (slot_laws.the_within κ) (Incl-trans bounds.1.0 lz))) (Incl-refl κ)) $ await ! tt $ split ! $
    hide ! $ feq_i ! (List Val) (vptr rb pi ∷ []) (vptr rb pi ∷ []) refl $ fjoin ! $
    -- [the `&` to the slots; half of the token; the name of the block and its borrow; what closes the loan; what the map follows; the other tokens]
    let G = triple_of 𝓛 (callee.signature unit Y Z g gd dd) (callee.spec unit Y Z g gd dd 𝓛 𝓜.mem 𝓡.returns) in
    let given : MutBor B.Denot = record { ref_ptr = (rb, p); ghost_name = δ; now = t.values } in
    let z : G.Ghost = (((κ, (κY, (κY, (κZ, tt)))), (half, (half_Y, (rest_Y, (qZ, tt)))), (bounds.0, (bounds.0, (bounds.1.0, tt))), (given, tt), (vptr rb p ∷ [], tt)), tt) in
    -- (the unit type has no lifetime of its own: half of the token of the values' lifetime stands for one)
    move ! (12 ∷ []) $ split ! $ use1 𝓛 (‵ (flft κY half_Y) ⊛ ‵ (flft κY rest_Y)) (𝓛.lfts.lft_split κY qY) $ split ! $ move ! (2 ∷ []) $ split ! $
    nothing ! $ move ! (1 ∷ 0 ∷ []) $ join ! $ move ! (3 ∷ 0 ∷ []) $ join ! $ move ! (2 ∷ 0 ∷ []) $ join ! $ move ! (3 ∷ 0 ∷ []) $ join ! $
    move ! (3 ∷ 4 ∷ []) $ feq_i ! (List Val) (vptr rb p ∷ []) (vptr rb p ∷ []) refl $ fjoin3 ! $ nothing ! $ move ! (1 ∷ 0 ∷ []) $ join ! $ move ! (1 ∷ 0 ∷ []) $ join ! $
    use0 𝓛 (raw (emp 𝓤)) (id⊢ 𝓤 (emp 𝓤)) $ use0 𝓛 (raw (fact 𝓤 (κZ ⊑ Z.lives))) (fact_i 𝓤 (κZ ⊑ Z.lives) (emp 𝓤) lz) $ join ! $
    use0 𝓛 (raw (fact 𝓤 (κY ⊑ Y.lives))) (fact_i 𝓤 (κY ⊑ Y.lives) (emp 𝓤) ly) $ join ! $ use0 𝓛 (raw (fact 𝓤 (κY ⊑ unit.lives))) (fact_i 𝓤 (κY ⊑ unit.lives) (emp 𝓤) (⊑_static κY)) $ join ! $
    move ! (1 ∷ 0 ∷ []) $ use2 𝓛 (raw (G.pre z)) (id⊢ 𝓤 _) $
    calls_at ! (framed 𝓤 𝓛.H 𝓜 𝓣) G (callee_met 𝓤 𝓛 𝓜 𝓡 (code.calls-aa_raw::row::entries_mut::RawVec+tuple2+K+V+A::entries_mut 𝓡.env wired) unit Y Z unit_ok LY LZ g gd dd met md) z (and_then ! (get ! refl) (no_more !)) (λ v.
    use1 𝓛 (later (some (λ (r : Tok.Denot). ((‵ (flft κ half) ⊛ ‵ (flft κY half_Y) ⊛ ‵ (flft κY rest_Y) ⊛ ‵ (flft κZ qZ) ⊛ ‵ ftrue) ⊛ ‵ (Tok.own_val r (v ∷ [])))
    ⊛ some (λ (ws : Unit {0} × Unit {0}). ‵ (lasts (callee.ended unit Y Z g gd dd) z.0.0 z.0.3 ws) ⊛ (‵ (follows B B δ r.tie (with_values_of t.values)) ⊛ raw (fact 𝓤 (r.places ≡ t.values.places))))))) (id⊢ 𝓤 _) $
    await ! tt $ pick ! (λ r. split ! $ split ! $ move ! (2 ∷ []) $ pick ! (λ ws. split ! $ drop ! $ split ! $ move ! (1 ∷ []) $ heard ! (r.places ≡ t.values.places) (λ same.
    -- [what the block follows; the tokens; the entries; the other tokens; the `&` to the slots; what closes the loan; what the map follows]
    move ! (1 ∷ []) $ split ! $
    move ! (2 ∷ 6 ∷ 7 ∷ 8 ∷ 9 ∷ 10 ∷ 11 ∷ 12 ∷ 0 ∷ []) $
    ends_lent Y Z X g LY LZ LX 𝓛 rb ro t d viewed κ δ r.tie tie (R.coded.code d) ! tt n q $
    -- [the token; the others; the entries; the `&` to the slots; what the map follows]
    move ! (1 ∷ []) $ split ! $ move ! (1 ∷ []) $ split ! $ move ! (1 ∷ []) $ split ! $
    move ! (0 ∷ 6 ∷ []) $ join ! $ move ! (3 ∷ 2 ∷ []) $ use2 𝓛 (‵ (flft κY qY)) (𝓛.lfts.lft_join κY qY) $ join ! $ move ! (2 ∷ 0 ∷ []) $ join ! $ move ! (1 ∷ []) $ drop ! $
    move ! (1 ∷ []) $ fsplit ! $ fpick ! (λ uss. fsplit ! $ feq_l ! (λ one. fsplit ! $ feq_l ! (λ isp. fsplit ! $ fpick ! (λ xs. fsplit ! $ feq_l ! (λ ism. drop ! $ drop ! $
    in_a_block ! r.ptr (λ p. entries_owned unit (V Y Z X g) κ p r.name r.places) (id⊢ 𝓤 (never 𝓤)) (λ bl o lies.
    let out : Val = vstruct (vcons (vptr bl o) (vcons (vstruct vnil) vnil)) in
    let is_word : v ∷ [] ≡ out ∷ [] = one ∙ ap (λ (ws : List Val). vstruct (of_list (ws ++ (uss.1.0 ++ []))) ∷ []) isp ∙ ap (λ (ws : List Val). vstruct (of_list ((ptr_val r.ptr ∷ []) ++ (ws ++ []))) ∷ []) ism
    ∙ ap (λ (p : Ptr). vstruct (vcons (ptr_val p) (vcons (vstruct vnil) vnil)) ∷ []) lies in
    let r' : Tok.Denot = record { ptr = block_ptr bl o; mark = record {}; name = r.name; tie = tie; places = r.places } in
    pure_i ! ((Struct (shape (token.the_type (named_lft 4 0 tt κs) unit (V Y Z X g)))).own_val (block_ptr bl o, (tt, tt)) (out ∷ [])) (λ vss. (tt, (tt, ((λ uss. (tt, tt)), tt)))) ((vptr bl o ∷ [], (vstruct vnil ∷ [], tt)), (refl, (refl, ((tt, (refl, tt)), tt)))) $ fjoin ! $
    let at_slots : Is₀.Denot = record { ref_ptr = (rb, pi); now = t.slots } in let both : Val = vstruct (vcons (vptr rb pi) (vcons out vnil)) in
    let all : seen (states_of t.slots) r.places ≡ d.slots = ap (seen (states_of t.slots)) same ∙ ap (λ (u : R.Denot). u.slots) viewed.0 in
    let held : AreHeld (states_of t.slots) r.places = subst (λ cs. AreHeld (states_of t.slots) cs) (sym same) viewed.1.0.held in
    move ! (2 ∷ []) $ move ! (1 ∷ []) $ nothing ! $ move ! (1 ∷ 0 ∷ []) $ fjoin ! $ move ! (1 ∷ 0 ∷ []) $ fjoin ! $ feq_i ! (List Val) (both ∷ []) (both ∷ []) refl $ fjoin ! $
    fpack ! (Valss (Is₀ ∷ Tok ∷ [])) (within (Declared.shape (tuple_type (Is₀ ∷ Tok ∷ []))) (at_slots, (r', tt)) (both ∷ [])) (vptr rb pi ∷ [], (out ∷ [], tt)) $
    lands_as ! (ap only is_word) refl (tt, (tt, (tt, tt))) $
    sets ! (addr ! (through ! refl (fld ! refl (stop !)))) refl (tt, tt) $ sets ! (of_opd ! (get ! refl)) refl (tt, (tt, (tt, tt))) $
    sets ! (agg ! (and_then ! (get ! refl) (and_then ! (get ! refl) (no_more !)))) refl (tt, (tt, ((tt, (tt, tt)), tt))) $
    returns ! (look_at ! 0 refl) $ free_all ! refl $ suffices ! _ (ends_at 𝓛 T stayed c y both (at_slots, r') (tt, tt) (tt, tt)) $
    move ! (1 ∷ 0 ∷ []) $ nothing ! $ nothing ! $ fjoin ! $ move ! (1 ∷ 0 ∷ []) $ group ! 3 $ frame ! $ says_two ! (all, held) $ done !)))))))))))))))
