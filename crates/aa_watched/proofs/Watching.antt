-- What the walks of `allocate` and `deallocate` have in common. Assumes `Logic`.
--     Wa     the watch's row, with what a statement assumes of it
--     generics, watch_of     the type arguments of both, and where the watch of a `Watched` lies.        watched_by     a `&` to the watch
--     reaches      a `&Watched` is a `&` to each of its fields
--     ShouldFail, Notes      the contract of `should_fail`, and the one that `on_allocate`, `on_failure` and `on_deallocate` share.        calling, calls     the arguments of a call of either, and what is passed to it
pub use Rattle.aa_watched.proofs.Walk.{◌≡◌, ℕ, ◌+◌, ◌<◌, ◌^◌, Bool, List, [], ◌∷◌, refl, ap, w64, Bor, true, false, Ok, Err, T, block_if_ok, bool, unit, Al, α, seen, token, Answer, answer_val, Answer-typed, Answer-Ok, Answer-err, Takes, at_takes, Answered, Takes-goes, Takes-gives, answers, Gives, at_gives, Gives-goes, Gives-Gives, after, front, arm_body, proved, leaves, Ura, inst_fn, Args, Dict, a_type, dnil, dcons, named, Fn, Body, Val, vunit, vint, vptr, Fml, Lft, Share, ftrue, fsep, flft, SProp, ent, emp, sep, fst∗, never, ◌⊑◌, ⊑_refl, ⊑_trans, Fun, fact, fact_i, tables, Memory, size, align, up, capped, Routine, Env, Wp, after_seq, at_return, WpFn, alloc_all, pass_all, free_all, look_at, get, get_in, get_tag, through, sets, sets_last, lands_as, env, ‵, raw, ◌⊛◌, some, later, ◌$◌, ◌∵◌, !, qed, move, keep, drop, use0, use1, use2, split, split3, join, pick, fsplit, fjoin, feq_i, feq_l, flt_i, await, done, prop, at_ret, any_q, Sq, Post, given, learn, suffices, group, regoal, Logic, sem, vrt, in_variant, agg, whole, stop, fld, addr, lit, no_more, and_then, of_opd, first, branches, skips, switches_on, exec, returns, returns_within, enter, unit_lit, hidden_shr, unhide, shr_dup, bounded, param, layout, Laws, uint_vals, uint_Tells, RattleType, owns, Ptr, block_ptr, null_ptr, ptr_val, room_for, in_a_block, rawptr_vals, rawptr_Tells, ShrRef, shr_vals, types_at, nothing, only, heard, calls_at, triple_of, Contract, framed, walk_of, ends_at, inner_of, dropped, gone, trues, spent, ended}
use base.Share
use Rattle.aa_watched.specs.declared.watched.Watch.{Ghosts}
use Rattle.aa_watched.specs.contracts.watched.Watched as watched
use Rattle.aa_watched.specs.contracts.watched.Watch.should_fail as should_fail
use Rattle.aa_watched.specs.contracts.watched.Watch.on_allocate as on_allocate

pub record Wa : Type 2 where
  pub row : RattleType
  pub laws : Laws row
  pub g : Ghosts row.Denot
  pub d : Dict
  pub drops : Dict

abbrev pub watched_by : (Y : Wa) → Lft → Y.row.Denot → ℕ × ℕ → Fml
watched_by Y κ w at = hidden_shr Y.row κ w at.0 at.1

module _ (Z : Al) (Y : Wa) where
  abbrev pub generics : Args
  generics = bounded (a_type ∷ a_type ∷ []) (Z.row, (Y.row, tt)) (dcons Z.d (dcons Y.d (dcons Z.drops (dcons Y.drops dnil))))

  abbrev pub watch_of : ℕ × ℕ → ℕ × ℕ
  watch_of at = (at.0, at.1 + up (align (layout Y.row)) (up (align (α Z)) 0 + size (α Z)))

  pub reaches : {M : Type 1} {𝓤 : Ura M} (𝓛 : Logic 𝓤) (κ : Lft) (r : Bor (watched.the_row Z.row Y.row).Denot)
      → ent 𝓤 (sem 𝓛 ((ShrRef (named 0) κ (watched.the_row (param 0 Z.row) (param 1 Y.row))).own_val r (shr_vals r))) (sep 𝓤 (sem 𝓛 (seen Z κ (inner_of Z r.ref_ptr) r.now.inner)) (sem 𝓛 (watched_by Y κ r.now.watch (watch_of r.ref_ptr))))
  reaches 𝓛 κ r =
      qed 𝓛 (‵ ((ShrRef (named 0) κ (watched.the_row (param 0 Z.row) (param 1 Y.row))).own_val r (shr_vals r)) ∷ []) ∵ fsplit ! $ drop ! $ unhide ! $ fsplit ! $ fsplit ! $ move ! (1 ∷ []) $ fsplit ! $ keep ! (2 ∷ 0 ∷ []) $ done !

module _ (Y : Wa) {M : Type 1} {𝓤 : Ura M} (𝓛 : Logic 𝓤) (at_mem : Memory → SProp 𝓤) (run : Routine → Fun 𝓤) where
  open 𝓛 use {H, A}

  abbrev pub ShouldFail : Contract 𝓤
  ShouldFail = triple_of 𝓛 (should_fail.signature Y.row) (should_fail.spec Y.row Y.g Y.d Y.drops 𝓛 at_mem run)

  abbrev pub Notes : Contract 𝓤
  Notes = triple_of 𝓛 (on_allocate.signature Y.row) (on_allocate.spec Y.row Y.g Y.d Y.drops 𝓛 at_mem run)

  module _ (κ : Lft) (q : Share) (w : Y.row.Denot) (at : ℕ × ℕ) (n al : ℕ) where
    abbrev pub calling : ShouldFail.Ghost
    calling = (((κ, (κ, tt)), (Share.left q, (Share.right q, tt)), (⊑_refl κ, tt), (record { ref_ptr = at; now = w }, (n, (al, tt))), (vptr at.0 at.1 ∷ [], (vint w64 n ∷ [], (vint w64 al ∷ [], tt)))), tt)

    pub calls : κ ⊑ Y.row.lives → n < 2 ^ 64 → al < 2 ^ 64 → ent 𝓤 (sep 𝓤 (sem 𝓛 (watched_by Y κ w at)) (A.lft κ q)) (ShouldFail.pre calling)
    calls le fits al_fits =
        qed 𝓛 (‵ (watched_by Y κ w at) ∷ ‵ (flft κ q) ∷ []) ∵ nothing ! $ use0 𝓛 (raw (fact 𝓤 (κ ⊑ Y.row.lives))) (fact_i 𝓤 (κ ⊑ Y.row.lives) (emp 𝓤) le) $ join ! $
        nothing ! $ flt_i ! al (2 ^ 64) al_fits $ feq_i ! (List Val) (vint w64 al ∷ []) (vint w64 al ∷ []) refl $ fjoin ! $ fjoin ! $
        flt_i ! n (2 ^ 64) fits $ feq_i ! (List Val) (vint w64 n ∷ []) (vint w64 n ∷ []) refl $ fjoin ! $ fjoin ! $
        move ! (2 ∷ []) $ feq_i ! (List Val) (vptr at.0 at.1 ∷ []) (vptr at.0 at.1 ∷ []) refl $ fjoin ! $ move ! (0 ∷ 1 ∷ []) $ fjoin ! $
        move ! (2 ∷ []) $ use1 𝓛 (‵ (flft κ (Share.left q)) ⊛ ‵ (flft κ (Share.right q))) (𝓛.lfts.lft_split κ q) $ split ! $ nothing ! $ move ! (2 ∷ 0 ∷ []) $ join ! $ move ! (1 ∷ 0 ∷ []) $ join ! $ join ! $ done !
