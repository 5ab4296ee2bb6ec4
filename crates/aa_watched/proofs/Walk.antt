-- The names that the walks of this crate and of the crates above it cite, passed on, and what the walks share. Assumes `Logic`.
--     inner_of      where the first field of a struct lies, if that is the inner allocator
--     dropped, gone      of no parameter is anything left at the return, where nothing is said of its last value.        trues, spent      what is then had of n parameters
--     ended      a proof's step: what a caller has, once a call of n parameters returns that borrowed a token in two halves: the result, the `ensures` and the token
pub use Rattle.std.proofs.Common.{◌≡◌, ℕ, ◌+◌, ◌<◌, ◌^◌, Bool, List, [], ◌∷◌, refl, ap, w64, Bor, true, false, Ok, Err, T, arith, lit<, subst, suc, sym, zero, ◌*◌, ◌++◌, ◌-◌, ◌/◌, ◌∙◌, ◌%◌}
pub use Rattle.std.specs.Allocator.{block_if_ok, owned_block}
pub use Rattle.std.specs.Borrow.{full_share, bool, unit, usize}
pub use Rattle.std.specs.declared.alloc.Allocator.{Ghosts}
pub use Rattle.std.proofs.alloc.Calls.{Al, α, seen, token, Answer, answer_val, Answer-typed, Answer-Ok, Answer-err, Takes, at_takes, Answered, Takes-goes, Takes-gives, answers, Gives, at_gives, Gives-goes, Gives-Gives}
pub use Rattle.std.proofs.alloc.Shapes.{after, front, arm_body, head, inside}
pub use Rattle.std.proofs.RcSteps.{is_not, is_so}
pub use Rattle.std.proofs.raw_atomic.Walks.{proved, leaves, proved_at}
pub use seplogic.Ra.Ura.{Ura}
pub use mir.MapTy.{inst_fn}
pub use mir.Syntax.{Args, Dict, a_type, dnil, dcons, named, Fn, Body, Ty, ty_array, ty_ptr, Callee, ty_int, ty_struct, tcons, tnil, ty_unit}
pub use mir.Val.{Val, vunit, vint, vptr, vbool, WT, has_ty, vstruct, vcons, vnil, of_list}
pub use base.Fml.{Fml, Lft, Share, ftrue, fsep, flft, ffalse, fat, fex, froom, ftok, fwand, Incl-refl, fbor}
pub use base.Logic.{SProp, ent, emp, sep, ex, id⊢, fst∗, never, never_e, apply∗, wand, via, snd∗}
pub use base.Mask.{every, less}
use base.Share
pub use contract.BorrowLft.{◌⊑◌, ⊑_refl, ⊑_trans, ⊑_meet, ⊑_static}
pub use contract.Monad.{Fun, fact, fact_i, fact_use}
pub use contract.Running.{tables, Running, Carries, bare_tables}
pub use prog.Align.{Dv, dv_self}
pub use prog.Capped.{capped_is, capped_small}
pub use prog.Memory.{Memory, size, align, up, capped}
pub use prog.Routine.{Routine, over, ◌≼⁺◌}
pub use prog.Wp.{Env, Wp, after_seq, at_return, WpFn, Calls, Loops, Tables, after_block}
pub use types.ByLocal.{alloc_all, pass_all, free_all, look_at, get, get_in, get_tag, through, sets, sets_last, lands_as, env, lands_last}
pub use types.Kit.{‵, raw, ◌⊛◌, some, later, ◌$◌, ◌∵◌, !, qed, move, keep, drop, use0, use1, use2, split, split3, join, pick, show, fsplit, fjoin, feq_i, feq_l, flt_i, await, updating, now as at_once, done, prop, at_ret, any_q, Sq, Post, given, learn, suffices, group, regoal, by, fjoin3, fpack, fpick, fsplit3, rewrite, post, Item, Goal, Seq, Step, Soaks, step, mean, use3, frame, assume}
pub use types.Logic.{Logic, sem, lfts}
pub use types.Match.{vrt, in_variant}
pub use types.Na.{bor_na, na_acc_in, na_bor}
pub use types.Part.{agg, whole, look_in, store_in, sub}
pub use types.Run.{stop, fld, addr, lit, no_more, and_then, of_opd, first, branches, skips, switches_on, exec, returns, returns_within, enter, unit_lit, assigns, bin, blocks, false_lit, load, true_lit, neg_lit, init, look}
pub use denote.Laws.{Ises, Are, owns_show, showss, Typed}
unfoldable pub use denote.Memory.{hidden_shr, cell_at, part_at, part_of}
pub use denote.Opens.{unhide, shr_dup, hide}
pub use denote.Param.{bounded, param, layout}
pub use denote.Param.Laws.{Laws, param_laws}
pub use denote.Plain.{uint_vals, uint_Tells}
pub use denote.RattleType.{RattleType, owns}
pub use denote.RawPtr.{RawPtr, Ptr, block_ptr, null_ptr, ptr_val, room_for, in_a_block, rawptr_vals, rawptr_Tells, rawptr_Lawful}
pub use denote.Ref.{ShrRef, shr_vals}
pub use denote.Signature.{Signature, Slot, types_at}
pub use denote.Steps.{nothing, only, heard}
pub use denote.Triple.Bound.{Bound}
pub use denote.Triple.Call.{calls_at, calls_at_last}
pub use denote.Triple.Clauses.{Ended, Clauses, closing}
pub use denote.Triple.End.{Kepts}
pub use denote.Triple.Entry.{on_entry, alive}
pub use denote.Triple.Spec.{triple_of, Meets}
pub use denote.Triple.Statement.{Contract}
pub use denote.Triple.Table.{framed, entered}
pub use denote.Triple.Walked.{stay_dropped, Goes-dropped, Stays, Silent, walk_of, ends_at, AllGo, walk_Meets}

abbrev pub inner_of : Al → ℕ × ℕ → ℕ × ℕ
inner_of Z at = (at.0, at.1 + up (align (α Z)) 0)

abbrev pub dropped : {n : ℕ} (ss : List (Slot n)) (ks : Kepts ss) → Stays ss ks
dropped [] ks = tt
dropped (s ∷ ss) ks = (stay_dropped s ks.0, dropped ss ks.1)

module _ {M : Type 1} {𝓤 : Ura M} (𝓛 : Logic 𝓤) where
  open 𝓛 use {H, A}

  pub gone : ent 𝓤 (emp 𝓤) (H.⇛ (emp 𝓤))
  gone = 𝓛.laws.⇛_intro (emp 𝓤)

  abbrev pub trues : ℕ → Fml
  trues zero = ftrue
  trues (suc n) = fsep ftrue (trues n)

  pub spent : (n : ℕ) → ent 𝓤 (emp 𝓤) (sem 𝓛 (trues n))
  spent zero = id⊢ 𝓤 (emp 𝓤)
  spent (suc n) = qed 𝓛 [] ∵ use0 𝓛 (‵ (trues n)) (spent n) $ nothing ! $ fjoin ! $ done !

  module _ (κ : Lft) (q : Share) (n : ℕ) (X : RattleType) (v : Val) (says : X.Denot → Fml) (W : Type 0) where
    abbrev Given : Item 𝓤
    Given = later (some (λ (r : X.Denot). ((‵ (flft κ (Share.left q)) ⊛ ‵ (flft κ (Share.right q)) ⊛ ‵ ftrue) ⊛ ‵ (X.own_val r (v ∷ []))) ⊛ some (λ (_ : W). ‵ (trues n) ⊛ ‵ (says r))))

    pub ended : {K : Type 0} {Γ : List (Item 𝓤)} {G : Goal 𝓤 H} → K → Soaks G
        → ((r : X.Denot) → Seq K 𝓛 (‵ (X.own_val r (v ∷ [])) ∷ ‵ (says r) ∷ ‵ (flft κ q) ∷ Γ) G) → Seq K 𝓛 (raw (mean 𝓛 Given) ∷ Γ) G
    ended t z k =
        use1 𝓛 Given (id⊢ 𝓤 (mean 𝓛 Given)) $ await t z $ pick t (λ r. split t $ move t (1 ∷ []) $ pick t (λ _. split t $ drop t $ move t (1 ∷ []) $ split t $
        split3 t $ use2 𝓛 (‵ (flft κ q)) (𝓛.lfts.lft_join κ q) $ move t (1 ∷ []) $ drop t $ move t (1 ∷ 2 ∷ 0 ∷ []) $ k r))
