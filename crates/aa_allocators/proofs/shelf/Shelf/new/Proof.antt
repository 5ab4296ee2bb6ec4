-- An empty shelf owns nothing. Assumes `Logic`.
use Rattle.aa_allocators.proofs.Shelving.{◌≡◌, List, [], ◌∷◌, refl, T, lit<, ◌++◌, leaves, proved_at, inst_fn, Fn, Val, vint, vptr, WT, has_ty, ftrue, fsep, SProp, emp, ◌⊑◌, fact, fact_i, tables, WpFn, alloc_all, pass_all, free_all, look_at, get, sets, ‵, raw, ◌⊛◌, ◌$◌, ◌∵◌, !, qed, move, drop, use0, split, fjoin, prop, regoal, by, fpack, agg, lit, no_more, and_then, returns, enter, Typed, param, RattleType, owns, null_ptr, types_at, nothing, heard, alive, walk_of, dropped, gone, trues, spent, IsKept, kept_blocks, generics, shelf_type, shelf_val, shelf_own, Fit, shelf_made}
use Rattle.aa_allocators.specs.contracts.shelf.Shelf.TheInside as inside
use Rattle.aa_allocators.specs.contracts.shelf.Shelf.new as made
use Rattle.aa_allocators.proofs.shelf.Shelf.new.Statement.{statement}
use Rattle.aa_allocators.proofs.shelf.Shelf.new.Code as code

pub new_spec : {M : Type 1} → statement M
new_spec 𝓤 𝓛 𝓜 𝓡 wired B L g d dd met md =
    let E = made.ended B g d dd in let c = made.clauses B g d dd 𝓛 𝓜.mem 𝓡.returns in let 𝓣 = tables 𝓤 𝓛.H 𝓜 𝓡 𝓡.env in
    let fn : Fn = inst_fn (generics B d dd) code.function in
    let stays = dropped E.signature.params E.kept in
    proved_at 𝓛 E stays c 𝓜 𝓡 ((λ κs x f vs ok. gone 𝓛), ((λ κs x f vs ok. gone 𝓛), ((λ κs x f vs ok. gone 𝓛), ((λ κs x f vs ok. gone 𝓛), tt))))
    (made.Key.name (generics B d dd)) fn (code.unfolded 𝓤 𝓛.H 𝓜 𝓡 wired (B, tt) d dd) (λ z are.
    let Post : Val → SProp 𝓤 = (walk_of 𝓛 E stays c).post z in
    let at = z.0.3.0.ref_ptr in let heap = z.0.3.0.now in let m = z.0.3.1.0 in let a = z.0.3.1.1.0 in let k = z.0.3.1.1.1.0 in
    let F : RattleType = inside.the_row (param 0 B) g in
    let v : Val = shelf_val null_ptr 0 k m a in let fit : Fit 0 k m a = (lit< tt, are.1.1.1.0.1, are.1.0.1, are.1.1.0.1) in
    let empty : T (has_ty shelf_type v) × WT v = (tt, (record { fits = lit< tt }, (record { fits = fit.0 }, (record { fits = fit.1 }, (record { fits = fit.2 }, (record { fits = fit.3 }, (tt, tt))))))) in
    qed 𝓛 ((raw (alive 𝓛 E.signature z.0.0 z.0.1) ⊛ ‵ (owns (types_at E.signature.params z.0.0) z.0.3 z.0.4)) ∷ (raw (fact 𝓤 (z.0.0.1.0 ⊑ B.lives)) ⊛ raw (fact 𝓤 (IsKept m a))) ∷ []) ∵
    move ! (1 ∷ []) $ split ! $ drop ! $ heard ! (IsKept m a) (λ kept. split ! $ move ! (1 ∷ []) $ drop ! $
    regoal ! (λ (us : List Val). prop (WpFn 𝓤 𝓛.H 𝓣.C 𝓣.Λ fn us Post)) (λ i. are.0.0 i ++ (are.1.0.0 i ++ (are.1.1.0.0 i ++ (are.1.1.1.0.0 i ++ [])))) refl $
    enter ! 𝓣.C 𝓣.Λ fn (vptr at.0 at.1 ∷ vint _ m ∷ vint _ a ∷ vint _ k ∷ []) Post $ alloc_all ! (λ l. pass_all ! refl ((tt, tt), ((tt, record { fits = are.1.0.1 }), ((tt, record { fits = are.1.1.0.1 }), ((tt, record { fits = are.1.1.1.0.1 }), tt)))) $
    sets ! (agg ! (no_more !)) refl (tt, tt) $
    sets ! (agg ! (and_then ! (lit ! tt) (and_then ! (lit ! tt) (and_then ! (get ! refl) (and_then ! (get ! refl) (and_then ! (get ! refl) (and_then ! (get ! refl) (no_more !)))))))) refl empty $
    returns ! (look_at ! 0 refl) $ free_all ! refl $
    use0 𝓛 (‵ (shelf_own null_ptr 0 k m a (v ∷ []))) (shelf_made 𝓛 null_ptr 0 k m a fit) $ nothing ! $ fpack ! (IsKept m a) (λ _. ftrue) kept $ move ! (1 ∷ 0 ∷ []) $ fjoin ! $
    fpack ! F.Denot (λ i. fsep (F.own_val i (v ∷ [])) (kept_blocks (g.dealloc_token heap) i.size i.align i.count i.top)) (record { top = null_ptr; count = 0; most = k; size = m; align = a; marker = record {} }) $
    nothing ! $ fpack ! (Typed F.mir (v ∷ [])) (λ _. ftrue) (empty, tt) $ fjoin ! $
    use0 𝓛 (raw (fact 𝓤 (heap ≡ heap))) (fact_i 𝓤 (heap ≡ heap) (emp 𝓤) refl) $ use0 𝓛 (‵ (trues 𝓛 4)) (spent 𝓛 4) $ move ! (3 ∷ 0 ∷ 2 ∷ 1 ∷ []) $
    by ! (leaves 𝓛 E stays c z v heap (tt, (tt, (tt, (tt, tt)))) (tt, (tt, (tt, (tt, tt))))))))
