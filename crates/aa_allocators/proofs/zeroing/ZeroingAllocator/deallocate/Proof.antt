-- The bytes of the block are zeroed, and the inner allocator deallocates it. Assumes `Logic`.
use Rattle.aa_allocators.proofs.Zeroed.{◌≡◌, List, [], ◌∷◌, refl, w64, arith, sym, ◌*◌, ◌∙◌, owned_block, Al, seen, token, Gives, at_gives, Gives-goes, Gives-Gives, proved, inst_fn, Fn, ty_array, Val, vunit, vint, vptr, Fml, ftrue, flft, froom, fwand, fst∗, never, apply∗, ◌⊑◌, ⊑_trans, fact, tables, capped_is, size, align, capped, WpFn, alloc_all, pass_all, free_all, look_at, get, through, sets, lands_as, ‵, raw, ◌⊛◌, later, ◌$◌, ◌∵◌, !, qed, move, keep, use0, use1, use2, split, split3, join, fsplit, feq_i, await, done, prop, given, learn, suffices, group, regoal, fpick, sem, stop, fld, addr, no_more, and_then, of_opd, returns, enter, unit_lit, uint_vals, uint_Tells, owns, Ptr, block_ptr, null_ptr, ptr_val, in_a_block, rawptr_vals, rawptr_Tells, shr_vals, types_at, nothing, heard, calls_at, framed, walk_of, ends_at, inner_of, dropped, gone, trues, spent, counted_right, zeros, generics, dv_one, byte, zeros_room, Zeroes, zeroes, zeroes_go, zeroed, reaches}
use Rattle.aa_allocators.proofs.zeroing.zero.Met.{met as zero_met}
use Rattle.aa_allocators.specs.contracts.zeroing.ZeroingAllocator.deallocate as F
use Rattle.aa_allocators.proofs.zeroing.ZeroingAllocator.deallocate.Statement.{statement}
use Rattle.aa_allocators.proofs.zeroing.ZeroingAllocator.deallocate.Code as code

pub deallocate_spec : {M : Type 1} → statement M
deallocate_spec 𝓤 𝓛 𝓜 𝓡 wired B L g d d' inner drops =
    let Z : Al = record { row = B; laws = L; g = g; d = d; drops = d' } in
    let E = F.ended B g d d' in let c = F.clauses B g d d' 𝓛 𝓜.mem 𝓡.returns in let hs = dropped E.signature.params E.kept in
    let Wk = walk_of 𝓛 E hs c in let 𝓣 = tables 𝓤 𝓛.H 𝓜 𝓡 𝓡.env in let fn : Fn = inst_fn (generics B d d') code.function in
    proved 𝓛 E hs c 𝓜 𝓡 ((λ κs x f vs ok. gone 𝓛), ((λ κs x f vs ok. gone 𝓛), ((λ κs x f vs ok. gone 𝓛), ((λ κs x f vs ok. gone 𝓛), tt)))) (F.Key.name (generics B d d')) fn (code.unfolded 𝓤 𝓛.H 𝓜 𝓡 wired (B, tt) d d')
    (λ κs. (shr_vals, (rawptr_vals, (uint_vals w64, (uint_vals w64, tt))))) (λ κs. ((λ r vs is. is.0), (rawptr_Tells, (uint_Tells w64, (uint_Tells w64, tt))))) (λ κs qs bounds a τ are.
    let κ = κs.0 in let q = qs.0 in let r = a.0 in let n = a.1.1.0 in let al = a.1.1.1.0 in let n_fits = are.1.1.0.1 in let al_fits = are.1.1.1.0.1 in
    let heap : B.Denot = r.now.inner in let at = inner_of Z r.ref_ptr in let right = counted_right (token Z heap) in
    let y : Ptr → Wk.Ghost = λ p. ((κs, qs, bounds, (r, (p, (n, (al, tt)))), (shr_vals r, (rawptr_vals p, (uint_vals w64 n, (uint_vals w64 al, tt))))), τ) in
    let Fits : Type 0 = (capped (size τ) ≡ n) × (capped (align τ) ≡ al) in
    qed 𝓛 (((‵ (flft κ q) ⊛ ‵ (flft κs.1.0 qs.1.0) ⊛ ‵ ftrue) ⊛ ‵ (owns (types_at E.signature.params κs) a (y a.1.0).0.4))
    ∷ (raw (fact 𝓤 (κs.1.0 ⊑ B.lives)) ⊛ raw (fact 𝓤 Fits) ⊛ ‵ (owned_block right τ a.1.0)) ∷ []) ∵
    move ! (1 ∷ []) $ split3 ! $ heard ! _ (λ lives. heard ! Fits (λ fits. let lasts = ⊑_trans κ κs.1.0 B.lives bounds.0 lives in
    in_a_block ! a.1.0 (λ p. owned_block right τ p) (fst∗ 𝓤 (never 𝓤) (sem 𝓛 (right τ null_ptr))) (λ b o is_block.
    regoal ! (λ (p : Ptr). prop (WpFn 𝓤 𝓛.H 𝓣.C 𝓣.Λ fn (vptr r.ref_ptr.0 r.ref_ptr.1 ∷ ptr_val p ∷ vint w64 n ∷ vint w64 al ∷ []) (Wk.post (y p)))) is_block refl $
    fsplit ! $ move ! (1 ∷ []) $ fpick ! (λ counted. move ! (1 ∷ 0 ∷ []) $
    let same : size τ ≡ n = sym (capped_is (size τ) (omega (arith, counted))) ∙ fits.0 in let all : n * 1 ≡ size τ = omega (arith, same) in
    let Bytes : Fml = froom (ty_array byte n) b o in
    use1 𝓛 (‵ Bytes ⊛ ‵ (fwand Bytes (froom τ b o))) (𝓛.laws.room_as τ (ty_array byte n) b o all (dv_one (align τ))) $ split ! $
    -- [the bytes; the way back; the right to free them; the tokens and what is owned]
    move ! (3 ∷ []) $ split ! $ split ! $ move ! (2 ∷ []) $ fsplit ! $
    use1 𝓛 (‵ (seen Z κ at heap)) (reaches Z 𝓛 κ r) $ keep ! (4 ∷ 5 ∷ 6 ∷ 0 ∷ 2 ∷ 3 ∷ []) $
    -- [the bytes; the way back; the right to free them; the `&` to the inner allocator; its token; the other token]
    enter ! _ _ _ _ _ $ alloc_all ! (λ l. pass_all ! refl ((tt, tt), ((tt, tt), ((tt, record { fits = n_fits }), ((tt, record { fits = al_fits }), tt)))) $
    let V = Zeroes 𝓛 𝓜.mem 𝓡.returns in let fills : V.Ghost = zeroes 𝓛 𝓜.mem 𝓡.returns b o n in
    use1 𝓛 (raw (V.pre fills)) (zeroes_go 𝓛 𝓜.mem 𝓡.returns b o n n_fits) $
    calls_at ! (framed 𝓤 𝓛.H 𝓜 𝓣) V (zero_met 𝓤 𝓛 𝓜 𝓡 (code.calls-aa_allocators::zeroing::zero 𝓡.env wired)) fills (and_then ! (get ! refl) (and_then ! (get ! refl) (no_more !))) (λ v.
    zeroed 𝓛 v (zeros n b o) _ ! tt (λ done'. lands_as ! done' refl (tt, tt) $
    use1 𝓛 (‵ Bytes) (zeros_room 𝓛 n b o) $ use2 𝓛 (‵ (froom τ b o)) (apply∗ 𝓤 (sem 𝓛 Bytes) (𝓛.H.room τ b o)) $
    sets ! (addr ! (through ! refl (fld ! refl (stop !)))) refl (tt, tt) $ group ! 4 $
    let G = Gives Z 𝓛 𝓜.mem 𝓡.returns in let give : G.Ghost = at_gives Z 𝓛 𝓜.mem 𝓡.returns κ q at heap b o n al τ in
    use1 𝓛 (raw (G.pre give)) (Gives-goes Z 𝓛 𝓜.mem 𝓡.returns κ q at heap lasts b o n al τ fits.0 fits.1 n_fits al_fits) $
    calls_at ! (framed 𝓤 𝓛.H 𝓜 𝓣) G (inner.deallocate d') give (and_then ! (get ! refl) (and_then ! (get ! refl) (and_then ! (get ! refl) (and_then ! (get ! refl) (no_more !))))) (λ u.
    use1 𝓛 (later (given (u ≡ vunit) (‵ (flft κ q)))) (Gives-Gives Z 𝓛 𝓜.mem 𝓡.returns κ q at heap b o n al τ u) $ await ! tt $ learn ! (λ freed. lands_as ! freed refl (tt, tt) $
    sets ! (of_opd ! (unit_lit !)) refl (tt, tt) $ returns ! (look_at ! 0 refl) $ free_all ! refl $
    suffices ! _ (ends_at 𝓛 E hs c (y (block_ptr b o)) vunit tt (tt, (tt, (tt, (tt, tt)))) (tt, (tt, (tt, (tt, tt))))) $
    join ! $ nothing ! $ feq_i ! (List Val) (vunit ∷ []) (vunit ∷ []) refl $ use0 𝓛 (‵ (trues 𝓛 4)) (spent 𝓛 4) $ move ! (3 ∷ 0 ∷ 1 ∷ []) $ group ! 3 $ done !))))))))))
