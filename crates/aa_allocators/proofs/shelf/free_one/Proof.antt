-- A block of the shelf is deallocated with the inner allocator, as room for words. Assumes `Logic`.
use Rattle.aa_allocators.proofs.Pooling.{◌≡◌, ℕ, ◌<◌, ◌^◌, Bool, List, [], ◌∷◌, refl, ap, w64, true, false, T, arith, subst, sym, ◌*◌, ◌/◌, ◌∙◌, ◌%◌, Al, seen, Answer-typed, at_takes, Answered, Takes-goes, Takes-gives, answers, Gives, at_gives, Gives-goes, Gives-Gives, after, front, arm_body, proved, inst_fn, Fn, Body, Ty, ty_array, ty_ptr, ty_unit, Val, vunit, vbool, WT, has_ty, ftrue, flft, froom, fwand, ◌⊑◌, ⊑_trans, fact, tables, Dv, dv_self, capped_is, size, align, capped, Env, Wp, after_seq, at_return, alloc_all, pass_all, free_all, look_at, get, get_in, get_tag, sets, sets_last, lands_as, env, lands_last, ‵, raw, ◌⊛◌, later, ◌$◌, ◌∵◌, !, qed, move, keep, drop, use0, use1, use2, split, split3, join, fsplit, feq_i, await, done, prop, at_ret, any_q, Sq, Post, given, learn, suffices, group, fpick, rewrite, vrt, in_variant, whole, stop, fld, no_more, and_then, of_opd, first, switches_on, exec, returns, returns_within, enter, blocks, false_lit, true_lit, uint_vals, uint_Tells, owns, shr_vals, types_at, nothing, heard, calls_at, calls_at_last, triple_of, framed, walk_of, ends_at, dropped, gone, trues, spent, generics, Shelved, passes_shelf}
use Rattle.std.proofs.Common.{◌⊎◌, inl, inr}
use Rattle.aa_allocators.proofs.shelf.Shelf.take.Met.{met}
use Rattle.aa_allocators.specs.contracts.shelf.Shelf.take as take
use Rattle.aa_allocators.specs.contracts.shelf.free_one as F
use Rattle.aa_allocators.proofs.shelf.free_one.Statement.{statement}
use Rattle.aa_allocators.proofs.shelf.free_one.Code as code
use mir.Syntax.{ty_int, w128}

abbrev IsWord : ℕ → Type 0
IsWord a = (a ≡ 8) ⊎ (a ≡ 16)

-- a type of n bytes, in words of that many
abbrev in_words : ℕ → (a : ℕ) → IsWord a → Ty
in_words n a (inl _) = ty_array ty_ptr (n / 8)
in_words n a (inr _) = ty_array (ty_int w128) (n / 16)

is_laid : (n a : ℕ) (w : IsWord a) → n % a ≡ 0 → n < 2 ^ 64 → (capped (size (in_words n a w)) ≡ n) × (capped (align (in_words n a w)) ≡ a)
is_laid n a (inl e) even small =
    let units : n / 8 * 8 ≡ n = let even' : n % 8 ≡ 0 = subst (λ (k : ℕ). n % k ≡ 0) e even in omega arith in (ap capped units ∙ capped_is n small, sym e)
is_laid n a (inr e) even small =
    let units : n / 16 * 16 ≡ n = let even' : n % 16 ≡ 0 = subst (λ (k : ℕ). n % k ≡ 0) e even in omega arith in (ap capped units ∙ capped_is n small, sym e)

pub free_one_spec : {M : Type 1} → statement M
free_one_spec 𝓤 𝓛 𝓜 𝓡 wired B L g d d' inner drops =
    let Z : Al = record { row = B; laws = L; g = g; d = d; drops = d' } in let K : Al = Shelved Z in
    let E = F.ended B g d d' in let c = F.clauses B g d d' 𝓛 𝓜.mem 𝓡.returns in let hs = dropped E.signature.params E.kept in
    let Wk = walk_of 𝓛 E hs c in let 𝓣 = tables 𝓤 𝓛.H 𝓜 𝓡 𝓡.env in let fn : Fn = inst_fn (generics B d d') code.function in
    proved 𝓛 E hs c 𝓜 𝓡 ((λ κs x f vs ok. gone 𝓛), ((λ κs x f vs ok. gone 𝓛), ((λ κs x f vs ok. gone 𝓛), ((λ κs x f vs ok. gone 𝓛), tt)))) (F.Key.name (generics B d d')) fn (code.unfolded 𝓤 𝓛.H 𝓜 𝓡 wired (B, tt) d d')
    (λ κs. (shr_vals, (shr_vals, (uint_vals w64, (uint_vals w64, tt))))) (λ κs. ((λ r vs is. is.0), ((λ r vs is. is.0), (uint_Tells w64, (uint_Tells w64, tt))))) (λ κs qs bounds a _ are.
    let κ = κs.0 in let q = qs.0 in let κ' = κs.1.0 in let q' = qs.1.0 in let spot = a.0.ref_ptr in let heap : B.Denot = a.1.0.now in let at = a.1.0.ref_ptr in
    let n = a.1.1.0 in let al = a.1.1.1.0 in let n_fits = are.1.1.0.1 in let al_fits = are.1.1.1.0.1 in
    let y : Wk.Ghost = ((κs, qs, bounds, a, (shr_vals a.0, (shr_vals a.1.0, (uint_vals w64 n, (uint_vals w64 al, tt))))), tt) in
    let Same : Type 0 = a.0.now ≡ heap in let Units : Type 0 = n % al ≡ 0 in
    let ends : (x : Bool) → Sq 𝓛 (‵ (flft κ q) ∷ ‵ (flft κ' q') ∷ (‵ (flft κs.1.1.0 qs.1.1.0) ⊛ ‵ ftrue) ∷ []) (prop (Wk.post y (vbool x))) = λ x.
    suffices ! _ (ends_at 𝓛 E hs c y (vbool x) x (tt, (tt, (tt, (tt, tt)))) (tt, (tt, (tt, (tt, tt))))) $
    move ! (1 ∷ 2 ∷ []) $ join ! $ move ! (1 ∷ []) $ join ! $ nothing ! $ feq_i ! (List Val) (vbool x ∷ []) (vbool x ∷ []) refl $ use0 𝓛 (‵ (trues 𝓛 4)) (spent 𝓛 4) $ move ! (3 ∷ 0 ∷ 1 ∷ []) $ group ! 3 $ done ! in
    qed 𝓛 (((‵ (flft κ q) ⊛ ‵ (flft κ' q') ⊛ ‵ (flft κs.1.1.0 qs.1.1.0) ⊛ ‵ ftrue) ⊛ ‵ (owns (types_at E.signature.params κs) a y.0.4))
    ∷ (raw (fact 𝓤 (κs.1.1.0 ⊑ B.lives)) ⊛ raw (fact 𝓤 Same) ⊛ raw (fact 𝓤 Units) ⊛ raw (fact 𝓤 (IsWord al))) ∷ []) ∵
    move ! (1 ∷ []) $ split3 ! $ heard ! _ (λ lives. heard ! Same (λ same. split ! $ heard ! Units (λ even. heard ! (IsWord al) (λ word.
    let lasts = ⊑_trans κ κs.1.1.0 B.lives bounds.0 lives in let lasts' = ⊑_trans κ' κs.1.1.0 B.lives bounds.1.0 lives in
    let τ : Ty = in_words n al word in let fits = is_laid n al word even n_fits in
    split ! $ split3 ! $ move ! (3 ∷ []) $ fsplit ! $ fsplit ! $ move ! (2 ∷ []) $ fsplit ! $ fsplit ! $
    rewrite ! 4 (λ (h : B.Denot). ‵ (seen K κ spot h)) same refl $ keep ! (4 ∷ 5 ∷ 1 ∷ 6 ∷ 7 ∷ []) $
    -- [the `&` to the shelf; its token; the `&` to the inner allocator; its token; the other token]
    enter ! _ _ _ _ _ $ alloc_all ! (λ l. pass_all ! refl ((tt, tt), ((tt, tt), ((tt, record { fits = n_fits }), ((tt, record { fits = al_fits }), tt)))) $
    let En : Env 𝓤 𝓛.H = env fn.locals l in let body : Body = fn.body in
    let Then : Post 𝓤 𝓛.H = any_q (after_seq 𝓤 𝓛.H (Wp 𝓤 𝓛.H 𝓣.C 𝓣.Λ En (after 2 body) (at_return 𝓤 𝓛.H En (Wk.post y))) (at_return 𝓤 𝓛.H En (Wk.post y))) in
    let S = triple_of 𝓛 (take.signature B g d d') (take.spec B g d d' 𝓛 𝓜.mem 𝓡.returns) in let asked : S.Ghost = at_takes K 𝓛 𝓜.mem 𝓡.returns κ q spot heap n al τ in
    use2 𝓛 (raw (S.pre asked)) (passes_shelf Z 𝓛 κ lasts (take.signature B g d d') asked.0 (fact 𝓤 ((capped (size τ) ≡ n) × (capped (align τ) ≡ al))) (λ le.
    Takes-goes K 𝓛 𝓜.mem 𝓡.returns κ q spot heap le n al τ fits.0 fits.1 n_fits al_fits)) $
    calls_at ! (framed 𝓤 𝓛.H 𝓜 𝓣) S (met 𝓤 𝓛 𝓜 𝓡 (code.calls-aa_allocators::shelf::Shelf::take 𝓡.env wired) B L g d d' inner drops) asked
    (and_then ! (get ! refl) (and_then ! (get ! refl) (and_then ! (get ! refl) (no_more !)))) (λ v.
    use1 𝓛 (later (raw (Answered K 𝓛 𝓜.mem 𝓡.returns heap τ v) ⊛ ‵ (flft κ q))) (Takes-gives K 𝓛 𝓜.mem 𝓡.returns κ q spot heap n al τ v) $ await ! tt $ split ! $
    -- [the result; the shelf's token; the `&` to the inner allocator; its token; the other token]
    answers K ! 𝓜.mem 𝓡.returns heap τ v
    (λ b o granted. lands_as ! granted refl (Answer-typed true b o) $
    first ! $ switches_on ! (get_tag ! (vrt ! refl (fld ! refl (stop !))) (whole !)) $ exec ! 𝓣.C 𝓣.Λ En (arm_body 0 (front (after 1 body))) Then $
    sets_last ! (of_opd ! (get_in ! (vrt ! refl (fld ! refl (stop !))) (in_variant ! 0 0 refl refl (whole !)))) refl (tt, tt) $ exec ! 𝓣.C 𝓣.Λ En (after 2 body) (at_ret En (Wk.post y)) $
    move ! (1 ∷ []) $ fpick ! (λ σ. fpick ! (λ alike. move ! (1 ∷ []) $
    use1 𝓛 (‵ (froom σ b o) ⊛ ‵ (fwand (froom σ b o) (froom τ b o))) (𝓛.laws.room_as τ σ b o alike.0 (subst (λ (k : ℕ). Dv k (align τ)) (sym alike.1) (dv_self (align τ)))) $
    split ! $ move ! (1 ∷ []) $ drop ! $
    -- [its room; its right; the shelf's token; the `&` to the inner allocator; its token; the other token]
    first ! $ blocks ! $ move ! (0 ∷ 1 ∷ 3 ∷ 4 ∷ 2 ∷ []) $ group ! 4 $
    let G = Gives Z 𝓛 𝓜.mem 𝓡.returns in let give : G.Ghost = at_gives Z 𝓛 𝓜.mem 𝓡.returns κ' q' at heap b o n al σ in
    use1 𝓛 (raw (G.pre give)) (Gives-goes Z 𝓛 𝓜.mem 𝓡.returns κ' q' at heap lasts' b o n al σ (ap capped alike.0 ∙ fits.0) (ap capped alike.1 ∙ fits.1) n_fits al_fits) $
    calls_at_last ! (framed 𝓤 𝓛.H 𝓜 𝓣) G (inner.deallocate d') give (and_then ! (get ! refl) (and_then ! (get ! refl) (and_then ! (get ! refl) (and_then ! (get ! refl) (no_more !))))) (λ u.
    use1 𝓛 (later (given (u ≡ vunit) (‵ (flft κ' q')))) (Gives-Gives Z 𝓛 𝓜.mem 𝓡.returns κ' q' at heap b o n al σ u) $ await ! tt $ learn ! (λ freed.
    lands_last ! refl (subst (λ (w : Val). T (has_ty ty_unit w) × WT w) (sym freed) (tt, tt)) $ exec ! 𝓣.C 𝓣.Λ En (after 3 body) (at_ret En (Wk.post y)) $
    sets ! (of_opd ! (true_lit !)) refl (tt, tt) $ returns ! (look_at ! 0 refl) $ free_all ! refl $ move ! (1 ∷ 0 ∷ []) $ ends true)))))
    (λ none. lands_as ! none refl (Answer-typed false 0 0) $
    first ! $ switches_on ! (get_tag ! (vrt ! refl (fld ! refl (stop !))) (whole !)) $ exec ! 𝓣.C 𝓣.Λ En (arm_body 1 (front (after 1 body))) Then $
    sets ! (of_opd ! (false_lit !)) refl (tt, tt) $ returns_within ! (Wk.post y) refl (look_at ! 0 refl) $ free_all ! refl $ keep ! (0 ∷ 2 ∷ 3 ∷ []) $ ends false))))))))
