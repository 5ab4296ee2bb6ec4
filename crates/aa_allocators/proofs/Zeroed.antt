-- What the walks over blocks that are zeroed have in common. Assumes `Logic`.
--     byte, bytes_from      room for a byte, and for n of them
--     splits      room for more than no bytes is room for one and for the others
--     zeros_room      bytes of zero are room
--     Zeroes, zeroes, zeroes_go, zeroed      the contract of `zero`, the arguments of a call, what is passed to it, and what a caller has after it
--     reaches      a `&Zeroing` is a `&` to its inner allocator
pub use Rattle.aa_watched.proofs.Walk.{◌≡◌, ℕ, ◌+◌, ◌<◌, ◌^◌, Bool, List, [], ◌∷◌, refl, ap, w64, Bor, true, false, Ok, Err, T, arith, lit<, subst, suc, sym, ◌*◌, ◌++◌, ◌/◌, ◌∙◌, ◌%◌, ◌-◌, block_if_ok, owned_block, bool, usize, Al, α, seen, token, Answer, answer_val, Answer-typed, Answer-Ok, Answer-err, Takes, at_takes, Answered, Takes-goes, Takes-gives, answers, Gives, at_gives, Gives-goes, Gives-Gives, after, front, arm_body, proved, leaves, Ura, inst_fn, Args, Dict, a_type, dnil, dcons, named, Fn, Body, Ty, ty_array, ty_ptr, ty_int, ty_unit, Val, vunit, vint, vptr, vbool, WT, has_ty, Fml, Lft, Share, ftrue, fsep, flft, fex, froom, fwand, SProp, ent, emp, sep, wand, id⊢, fst∗, never, apply∗, ◌⊑◌, ⊑_trans, ⊑_meet, ⊑_static, Fun, fact, fact_i, tables, Dv, dv_self, capped_is, Memory, size, align, up, capped, Routine, Env, Wp, after_seq, at_return, WpFn, alloc_all, pass_all, free_all, look_at, get, get_in, get_tag, through, sets, sets_last, lands_as, env, lands_last, ‵, raw, ◌⊛◌, some, later, ◌$◌, ◌∵◌, !, qed, move, keep, drop, use0, use1, use2, split, split3, join, pick, fsplit, fjoin, feq_i, feq_l, flt_i, await, done, prop, at_ret, any_q, Sq, Post, given, learn, suffices, group, regoal, fpack, fpick, rewrite, frame, assume, by, Logic, sem, vrt, in_variant, agg, whole, stop, fld, addr, lit, no_more, and_then, of_opd, first, branches, skips, switches_on, exec, returns, returns_within, enter, unit_lit, blocks, false_lit, true_lit, hidden_shr, unhide, hide, bounded, param, layout, uint_vals, uint_Tells, RattleType, owns, Ptr, block_ptr, null_ptr, ptr_val, room_for, in_a_block, rawptr_vals, rawptr_Tells, ShrRef, shr_vals, types_at, nothing, only, heard, calls_at, calls_at_last, triple_of, Contract, framed, walk_of, ends_at, inner_of, dropped, gone, trues, spent, ended, Soaks, Item, Seq, Goal, mean, Laws, ⊑_refl, bin, neg_lit, full_share, fat, assigns, init, look, load, zero, unit, RawPtr, head, inside}
pub use Rattle.std.proofs.Common.{nltb→le}
pub use types.Kit.{flt_l}
pub use Rattle.std.specs.Prelude.{◌≤◌}
pub use Rattle.aa_allocators.specs.Zeros.{bytes_room, counted_right, zeros, zeros_at}
pub use Rattle.aa_allocators.proofs.Shelving.{exact, generics}
pub use Rattle.aa_allocators.proofs.Layering.{few}
pub use mir.Syntax.{w8}
pub use prog.Align.{dv_one}
use denote.RawPtr.Room.{room_glue, past, past_bytes}
use Rattle.aa_allocators.specs.contracts.zeroing.zero as zeroing
use Rattle.aa_allocators.specs.contracts.zeroing.Zeroing as layer

abbrev pub byte : Ty
byte = ty_int w8

module _ {M : Type 1} {𝓤 : Ura M} (𝓛 : Logic 𝓤) where
  open 𝓛 use {H}

  abbrev pub bytes_from : ℕ → ℕ → ℕ → SProp 𝓤
  bytes_from n b o = H.room (ty_array byte n) b o

  pub splits : (n i b o : ℕ) → i < n → ent 𝓤 (bytes_from (n - i) b (i + o)) (sep 𝓤 (H.room byte b (i + o)) (bytes_from (n - suc i) b (suc i + o)))
  splits n i b o h =
      let more : suc (n - suc i) ≡ n - i = omega (arith, h) in let next : i + o + 1 ≡ suc i + o = omega arith in
      subst (λ (x : ℕ × ℕ). ent 𝓤 (bytes_from x.0 b (i + o)) (sep 𝓤 (H.room byte b (i + o)) (bytes_from (n - suc i) b x.1))) (λ j. (more j, next j)) (𝓛.laws.room_uncons byte (n - suc i) b (i + o))

  glues : (n b o : ℕ) → ent 𝓤 (sep 𝓤 (bytes_from n b o) (bytes_from 1 b (n + o))) (bytes_from (suc n) b o)
  glues n b o =
      let all : n + 1 ≡ suc n = omega arith in let place : past byte n o ≡ n + o = past_bytes n o ∙ omega arith in
      subst (λ (x : ℕ × ℕ). ent 𝓤 (sep 𝓤 (bytes_from n b o) (bytes_from 1 b x.1)) (bytes_from x.0 b o)) (λ j. (all j, place j)) (room_glue 𝓛 byte n 1 b o)

  pub zeros_room : (n b o : ℕ) → ent 𝓤 (sem 𝓛 (zeros n b o)) (bytes_from n b o)
  zeros_room zero b o = qed 𝓛 (‵ (zeros zero b o) ∷ []) ∵ drop ! $ use0 𝓛 (raw (bytes_from zero b o)) (𝓛.laws.room_nil byte b o) $ done !
  zeros_room (suc n) b o =
      qed 𝓛 (‵ (zeros (suc n) b o) ∷ []) ∵ fsplit ! $ use1 𝓛 (raw (bytes_from n b o)) (zeros_room n b o) $ move ! (1 ∷ []) $
      use1 𝓛 (raw (H.room byte b (n + o))) (𝓛.laws.at_room byte b (n + o) (vint w8 0)) $
      use1 𝓛 (raw (bytes_from 1 b (n + o)) ⊛ raw (wand 𝓤 (bytes_from 1 b (n + o)) (H.room byte b (n + o)))) (𝓛.laws.room_as byte (ty_array byte 1) b (n + o) refl tt) $ split ! $
      keep ! (2 ∷ 0 ∷ []) $ by ! (glues n b o)

module _ {M : Type 1} {𝓤 : Ura M} (𝓛 : Logic 𝓤) (at_mem : Memory → SProp 𝓤) (run : Routine → Fun 𝓤) where
  abbrev pub Zeroes : Contract 𝓤
  Zeroes = triple_of 𝓛 zeroing.signature (zeroing.spec 𝓛 at_mem run)

  abbrev pub zeroes : ℕ → ℕ → ℕ → Zeroes.Ghost
  zeroes b o n = ((tt, tt, tt, (block_ptr b o, (n, tt)), (vptr b o ∷ [], (vint w64 n ∷ [], tt))), tt)

  pub zeroes_go : (b o n : ℕ) → n < 2 ^ 64 → ent 𝓤 (bytes_from 𝓛 n b o) (Zeroes.pre (zeroes b o n))
  zeroes_go b o n fn =
      qed 𝓛 (‵ (froom (ty_array byte n) b o) ∷ []) ∵ nothing ! $
      flt_i ! n (2 ^ 64) fn $ feq_i ! (List Val) (vint w64 n ∷ []) (vint w64 n ∷ []) refl $ fjoin ! $ fjoin ! $
      feq_i ! (List Val) (vptr b o ∷ []) (vptr b o ∷ []) refl $ fjoin ! $ nothing ! $ join ! $ join ! $ done !

module _ {M : Type 1} {𝓤 : Ura M} (𝓛 : Logic 𝓤) (v : Val) (P : Fml) (W : Type 0) where
  open 𝓛 use {H}

  abbrev Written : Item 𝓤
  Written = later (some (λ (r : Unit {0}). (‵ ftrue ⊛ ‵ (unit.own_val r (v ∷ []))) ⊛ some (λ (_ : W). ‵ (trues 𝓛 2) ⊛ ‵ P)))

  pub zeroed : {K : Type 0} {Γ : List (Item 𝓤)} {G : Goal 𝓤 H} → K → Soaks G
      → (v ≡ vunit → Seq K 𝓛 (‵ P ∷ Γ) G) → Seq K 𝓛 (raw (mean 𝓛 Written) ∷ Γ) G
  zeroed t z next =
      use1 𝓛 Written (id⊢ 𝓤 (mean 𝓛 Written)) $ await t z $ pick t (λ r. split t $ split t $ drop t $ feq_l t (λ e. pick t (λ _. split t $ drop t $ next (ap only e))))

pub reaches : (Z : Al) {M : Type 1} {𝓤 : Ura M} (𝓛 : Logic 𝓤) (κ : Lft) (r : Bor (layer.the_row Z.row).Denot)
    → ent 𝓤 (sem 𝓛 ((ShrRef (named 0) κ (layer.the_row (param 0 Z.row))).own_val r (shr_vals r))) (sem 𝓛 (seen Z κ (inner_of Z r.ref_ptr) r.now.inner))
reaches Z 𝓛 κ r =
    qed 𝓛 (‵ ((ShrRef (named 0) κ (layer.the_row (param 0 Z.row))).own_val r (shr_vals r)) ∷ []) ∵ fsplit ! $ drop ! $ unhide ! $ fsplit ! $ fsplit ! $ keep ! (0 ∷ []) $ done !
