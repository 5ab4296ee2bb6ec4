-- The bytes are written one by one, from the first on. Assumes `Logic`.
use Rattle.aa_allocators.proofs.Zeroed.{◌≡◌, ℕ, ◌+◌, ◌<◌, ◌^◌, List, [], ◌∷◌, refl, w64, arith, lit<, suc, ◌-◌, after, Ura, Fn, Body, ty_array, ty_int, Val, vunit, vint, vptr, froom, SProp, ent, id⊢, Fun, tables, Memory, Routine, Env, Wp, after_seq, at_return, WpFn, alloc_all, pass_all, free_all, look_at, get, through, sets, sets_last, env, ‵, raw, ◌⊛◌, ◌$◌, ◌∵◌, !, qed, move, drop, use0, use1, split, fjoin, feq_i, done, prop, at_ret, any_q, Sq, suffices, group, regoal, rewrite, by, Logic, sem, stop, lit, of_opd, first, branches, skips, exec, returns, enter, unit_lit, blocks, uint_vals, uint_Tells, Ptr, block_ptr, ptr_val, in_a_block, rawptr_vals, rawptr_Tells, nothing, triple_of, walk_of, ends_at, dropped, gone, trues, spent, Item, bin, full_share, fat, assigns, init, zero, head, inside, nltb→le, ◌≤◌, bytes_room, zeros, byte, splits}
use mathlib.Core.WellFounded.InvImage
use lib.Dec.{ltb→lt}
use lib.WfN.{lt-wf_rel}
use prog.Wp.{Out, Tables, after_block, after_turn}
use contract.Running.{tables_of}
use sound.WpLaws.{WpFn-mono}
use types.Kit.{runs}
use types.Run.{jumps, loops, again, Below}
use types.ByLocal.{holding, forget_but, take_at, give_at}
use denote.Triple.Entry.{on_entry}
use denote.Triple.Table.{entered}
use denote.Triple.Walked.{Stays, walked, walk_Meets}
use Rattle.aa_allocators.specs.contracts.zeroing.zero as F
use Rattle.aa_allocators.proofs.zeroing.zero.Statement.{statement}
use Rattle.aa_allocators.proofs.zeroing.zero.Code as code

abbrev fn' : Fn
fn' = code.function

abbrev turn : Body
turn = inside (inside (head (after 1 fn'.body)))

abbrev stayed : Stays F.ended.signature.params F.ended.kept
stayed = dropped F.ended.signature.params F.ended.kept

module _ {M : Type 1} {𝓤 : Ura M} (𝓛 : Logic 𝓤) (at_mem : Memory → SProp 𝓤) (run : Routine → Fun 𝓤) (𝓣 : Tables 𝓤 𝓛.H) (b o n : ℕ) (fn : n < 2 ^ 64) (Post : Val → SProp 𝓤) (exits : ent 𝓤 (sem 𝓛 (zeros n b o)) (Post vunit)) where
  open 𝓛 use {H}

  -- how many are written
  abbrev Done : Type 0
  Done = (i : ℕ) × (i ≤ n)

  abbrev Nearer : Done → Done → Type 0
  Nearer t u = n - t.0 < n - u.0

  module _ (l : ℕ → ℕ) where
    abbrev En : Env 𝓤 H
    En = env fn'.locals l

    abbrev Now : Done → List (Item 𝓤)
    Now t = ‵ (zeros t.0 b o) ∷ ‵ (froom (ty_array byte (n - t.0)) b (t.0 + o)) ∷ holding 𝓛 En ((1, vptr b o) ∷ (2, vint w64 n) ∷ (3, vint w64 t.0) ∷ [])

    abbrev Turned : Done → Out → SProp 𝓤
    Turned t = after_turn 𝓤 H (Below 𝓛 Nearer Now t) (after_block 𝓤 H (after_seq 𝓤 H (Wp 𝓤 H 𝓣.C 𝓣.Λ En (after 2 fn'.body) (at_return 𝓤 H En Post)) (at_return 𝓤 H En Post)))

    turns : (t : Done) → Sq 𝓛 (Now t) (runs 𝓣.C 𝓣.Λ En turn (any_q (Turned t)))
    unfolding after_turn
    turns t =
        let i : ℕ = t.0 in let le = t.1 in
        sets ! (bin ! (get ! refl) (get ! refl) tt) refl (tt, tt) $ first ! $ branches ! (get ! refl)
        (λ less. let h : i < n = ltb→lt i n less in let fj : i + 1 < 2 ^ 64 = omega (arith, h, fn) in let one_more : i + 1 ≡ suc i = omega arith in
        skips ! $ exec ! 𝓣.C 𝓣.Λ En (after 2 turn) (any_q (Turned t)) $
        sets ! (bin ! (get ! refl) (get ! refl) tt) refl (tt, tt) $ move ! (1 ∷ []) $
        use1 𝓛 (‵ (froom byte b (i + o)) ⊛ ‵ (froom (ty_array byte (n - suc i)) b (suc i + o))) (splits 𝓛 n i b o h) $ split ! $
        -- [room for the byte; room for the others; the bytes before it]
        assigns ! (of_opd ! (lit ! tt)) (through ! refl (stop !)) (init ! 0 refl (tt, record { fits = lit< tt })) $
        sets_last ! (bin ! (get ! refl) (lit ! tt) (record { fits = fj })) refl (tt, record { fits = fj }) $
        move ! (2 ∷ 0 ∷ []) $ fjoin ! $
        forget_but ! En (1 ∷ 2 ∷ 3 ∷ []) refl $ take_at ! 3 $ rewrite ! 0 (λ (k : ℕ). ‵ (fat full_share (ty_int w64) (l 3) zero (vint w64 k))) one_more refl $ give_at ! 3 $
        again ! Nearer Now t (suc i, omega (arith, h)) (omega (arith, h)))
        (λ over. let ge = nltb→le i n over in let all : i ≡ n = omega (arith, ge, le) in
        jumps ! $ exec ! 𝓣.C 𝓣.Λ En (after 2 fn'.body) (at_ret En Post) $ rewrite ! 0 (λ (k : ℕ). ‵ (zeros k b o)) all refl $ move ! (1 ∷ []) $ drop ! $
        sets ! (of_opd ! (unit_lit !)) refl (tt, tt) $ returns ! (look_at ! 0 refl) $ free_all ! refl $ by ! exits)

  runs_by : ent 𝓤 (H.room (ty_array byte n) b o) (WpFn 𝓤 H 𝓣.C 𝓣.Λ fn' (vptr b o ∷ vint w64 n ∷ []) Post)
  runs_by =
      let all : n ≡ n - 0 = omega arith in let place : o ≡ 0 + o = omega arith in
      qed 𝓛 (‵ (froom (ty_array byte n) b o) ∷ []) ∵
      rewrite ! 0 (λ (x : ℕ × ℕ). ‵ (froom (ty_array byte x.0) b x.1)) (λ j. (all j, place j)) refl $ nothing ! $
      enter ! 𝓣.C 𝓣.Λ fn' (vptr b o ∷ vint w64 n ∷ []) Post $
      alloc_all ! (λ l. pass_all ! refl ((tt, tt), ((tt, record { fits = fn }), tt)) $
      sets ! (of_opd ! (lit ! tt)) refl (tt, record { fits = lit< tt }) $
      first ! $ blocks ! $ loops ! 𝓣 Nearer (InvImage.wf (λ (t : Done). n - t.0) lt-wf_rel.wf) (Now l) (turns l) (0, omega arith))

pub zero_spec : {M : Type 1} → statement M
unfolding tables_of
zero_spec 𝓤 𝓛 𝓜 𝓡 wired =
    let 𝓣 : Tables 𝓤 𝓛.H = tables_of 𝓤 𝓛.H 𝓜 (tables 𝓤 𝓛.H 𝓜 𝓡 𝓡.env) in
    let E = F.ended in let c = F.clauses 𝓛 𝓜.mem 𝓡.returns in let Wk = walk_of 𝓛 E stayed c in
    entered 𝓤 𝓛.H (triple_of 𝓛 F.signature (F.spec 𝓛 𝓜.mem 𝓡.returns)) 𝓣.C 𝓣.Λ F.Key.name fn' (code.unfolded 𝓤 𝓛.H 𝓜 𝓡 wired)
    (walk_Meets 𝓛 E stayed ((λ κs x f vs ok. gone 𝓛), ((λ κs x f vs ok. gone 𝓛), tt)) c (WpFn 𝓤 𝓛.H 𝓣.C 𝓣.Λ fn') (WpFn-mono 𝓤 𝓛.H 𝓛.laws 𝓣 fn')
    (walked 𝓛 E stayed c (WpFn 𝓤 𝓛.H 𝓣.C 𝓣.Λ fn') (λ κs. (rawptr_vals, (uint_vals w64, tt))) (λ κs. (rawptr_Tells, (uint_Tells w64, tt)))
    (λ κs qs bounds a _ are. let n = a.1.0 in let n_fits = are.1.0.1 in
    let y : Ptr → Wk.Ghost = λ p. ((κs, qs, bounds, (p, (n, tt)), (rawptr_vals p, (uint_vals w64 n, tt))), tt) in
    qed 𝓛 (raw (on_entry 𝓛 F.signature κs qs a (y a.0).0.4) ∷ ‵ (bytes_room a.0 n) ∷ []) ∵ drop ! $
    in_a_block ! a.0 (λ p. bytes_room p n) (id⊢ 𝓤 _) (λ b o e.
    regoal ! (λ (p : Ptr). prop (WpFn 𝓤 𝓛.H 𝓣.C 𝓣.Λ fn' (ptr_val p ∷ vint w64 n ∷ []) (Wk.post (y p)))) e refl $
    by ! (runs_by 𝓛 𝓜.mem 𝓡.returns 𝓣 b o n n_fits (Wk.post (y (block_ptr b o)))
    (qed 𝓛 (‵ (zeros n b o) ∷ []) ∵ suffices ! _ (ends_at 𝓛 E stayed c (y (block_ptr b o)) vunit tt (tt, (tt, tt)) (tt, (tt, tt))) $
    feq_i ! (List Val) (vunit ∷ []) (vunit ∷ []) refl $ use0 𝓛 (‵ (trues 𝓛 2)) (spent 𝓛 2) $ nothing ! $ group ! 3 $ done !))))))
