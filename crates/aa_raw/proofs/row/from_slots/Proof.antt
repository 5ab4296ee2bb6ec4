-- Slots that all hold their values are the places of a row. Assumes `Logic`.
use Rattle.aa_raw.proofs.{ !, Bool, El, Goes-dropped, Into, Into-gives, Into-goes, ItemIn, List, MemEl as Item, R, Row, Rw, Some, SpotsFrom, Stays, Vals, WT, WpFn, [], after, agg, all, alloc_all, and_then, args, arith, at_into, at_ret, await, block_ptr, blocks, calls_at_last, cells, done, ends_at, enter, env, exec, fact, first, fjoin, fld, flft, framed, free_all, fsplit, ftrue, get, get_in, given, heard, held, inst_fn, is, join, keep, lands_last, later, learn, length, length-map, look_at, map, mem, move, no, no_al, no_more, nothing, of_opd, owns, parts_typed, pass_all, plain, prop, proved_at, qed, raw, refl, regoal, returns, rewrite, row_made, row_val, says, sets, slots_counts, slots_filled, slots_full as IsFull, slots_had, slots_items, slots_len, slots_made, split, start, stay_dropped, stop, sub, subst, suffices, sym, sz, tables, to_row, types_at, use1, use2, values_in, via, walk_of, whole, whole_in, word, ‵, ℕ, ◌$◌, ◌*◌, ◌<◌, ◌^◌, ◌∙◌, ◌∵◌, ◌∷◌, ◌≡◌, ◌⊑◌, ◌⊛◌}
use Rattle.core.proofs.slots.Slots.into_raw_parts.Met as callee
use Rattle.aa_raw.specs.contracts.row.from_slots as f
use Rattle.aa_raw.proofs.row.from_slots.Code as code

abbrev it : El → Item
it E = record { row = E.row; laws = E.laws }

pub from_slots_spec : {M : Type 1} → Rattle.aa_raw.proofs.row.from_slots.Statement.statement M
from_slots_spec 𝓤 𝓛 𝓜 𝓡 wired X LX =
    let E : El = record { row = X; laws = LX } in let V = held (record { row = X; laws = LX }) in
    let e = inst_fn (args E) code.function in
    let stayed : Stays (f.ended E.row).signature.params (f.ended E.row).kept =
    (stay_dropped (plain (λ _. Row (held E))) no, tt) in
    let c = f.clauses X 𝓛 𝓜.mem 𝓡.returns in let W = walk_of 𝓛 (f.ended X) stayed c in
    let 𝓣 = tables 𝓤 𝓛.H 𝓜 𝓡 𝓡.env in
    let met = callee.met 𝓤 𝓛 𝓜 𝓡 (code.calls-core::slots::Slots::into_raw_parts 𝓡.env wired) X LX in
    let Gives = Into V 𝓛 𝓜.mem 𝓡.returns in
    proved_at 𝓛 (f.ended X) stayed c 𝓜 𝓡
    (Goes-dropped 𝓛 1 (plain (λ _. Row (held E))) no (λ κs x w. refl), tt)
    (f.Key.name (args E)) e (code.unfolded 𝓤 𝓛.H 𝓜 𝓡 wired (X, tt)) (λ z are.
    let κs = z.0.0 in let qs = z.0.1 in let a = z.0.3 in let us = z.0.4 in let r = a.0 in
    let n = slots_len r in let xs = slots_items r in let fs : List Bool = slots_filled r in
    let spelled : Vals (f.ended X).signature κs → W.Ghost = λ vss. ((κs, qs, z.0.2, a, vss), z.1) in
    qed 𝓛 (((‵ (flft κs.0 qs.0) ⊛ ‵ ftrue)
    ⊛ ‵ (owns (types_at (f.ended X).signature.params κs) a us))
    ∷ (raw (fact 𝓤 (κs.0 ⊑ X.lives)) ⊛ raw (fact 𝓤 (IsFull r))) ∷ []) ∵
    move ! (1 ∷ []) $ split ! $ heard ! (κs.0 ⊑ X.lives) (λ lives. heard ! (IsFull r) (λ full.
    split ! $ split ! $ move ! (2 ∷ []) $ fsplit ! $
    slots_had (it E) ! r us.0
    (λ b o lies spelt far small. slots_made (it E) ! r b o lies far small $
    keep ! (0 ∷ 2 ∷ []) $
    let vss : Vals (f.ended X).signature κs = (row_val b o n ∷ [], tt) in let y = spelled vss in
    let words : WT (row_val b o n) = (tt, (record { fits = far }, tt)) in
    regoal ! (λ (uss : Vals (f.ended X).signature κs).
    prop (WpFn 𝓤 𝓛.H 𝓣.C 𝓣.Λ e (W.args (spelled uss)) (W.post (spelled uss))))
    (λ k. (spelt k, tt)) refl $
    enter ! _ _ _ _ _ $
    alloc_all ! (λ l. pass_all ! refl ((tt, words), tt) $ first ! $ blocks ! $
    sets ! (of_opd ! (get ! refl)) refl (tt, words) $
    let g : Gives.Ghost = at_into V 𝓛 𝓜.mem 𝓡.returns κs.0 qs.0 r b o in
    use2 𝓛 (raw (Gives.pre g)) (Into-goes V 𝓛 𝓜.mem 𝓡.returns κs.0 qs.0 r b o lives) $
    calls_at_last ! (framed 𝓤 𝓛.H 𝓜 𝓣) Gives met g (and_then ! (get ! refl) (no_more !)) (λ v.
    use1 𝓛 (later (given (v ≡ row_val b o n) (‵ (all V b o xs fs) ⊛ ‵ (flft κs.0 qs.0))))
    (Into-gives V 𝓛 𝓜.mem 𝓡.returns κs.0 qs.0 r b o v lies) $ await ! tt $
    learn ! (λ over. split ! $
    lands_last ! refl (parts_typed v b o n over far) $
    exec ! 𝓣.C 𝓣.Λ (env e.locals l) (after 1 e.body) (at_ret _ (W.post y)) $
    sets ! (is ! (of_opd ! (get ! refl)) over) refl (tt, words) $
    sets ! (agg ! (and_then ! (get_in ! (fld ! refl (stop !)) (sub ! 0 refl (whole !)))
    (no_more !))) refl (tt, (tt, tt)) $
    let many : n ≡ length xs = (slots_counts r).0 in
    let flags : n ≡ length fs = (slots_counts r).1 in
    use1 𝓛 (‵ (cells (mem (R E)) xs b o))
    (via 𝓤 _ (to_row (it E) 𝓛 b xs fs o (sym flags ∙ many)
    (λ k h. full k (omega arith) (omega arith))) (whole_in 𝓛 (R E) xs b o)) $
    rewrite ! 0 (λ (k : ℕ). ‵ (cells (mem (R E)) xs b k)) (sym (start E 𝓛 b o)) refl $
    use1 𝓛 (‵ (SpotsFrom E 𝓛 b o 0 (map Some xs))) (values_in E 𝓛 b o xs 0) $
    let d : (Rw E).Denot = record { ptr = block_ptr b o; places = map Some xs } in
    row_made (R E) ! d b o refl
    (subst (λ k. k * sz E < 2 ^ 63) (many ∙ sym (length-map xs Some)) small) $
    returns ! (look_at ! 0 refl) $ free_all ! refl $
    suffices ! _ (ends_at 𝓛 (f.ended X) stayed c y (word b o) d (tt, tt) (tt, tt)) $
    says ! (sym lies, refl) $
    nothing ! $ move ! (2 ∷ 0 ∷ []) $ join ! $ nothing ! $ nothing ! $ fjoin ! $
    move ! (1 ∷ 0 ∷ 2 ∷ []) $ done !)))))))
