-- What the walks of an allocator over two others have in common. Assumes `Logic`.
--     Ch      the chooser's row, with what a statement assumes of it
--     generics      the type arguments of both walks.        second_of, chooser_of     where the second allocator and the chooser lie
--     reaches      a `&Choice` is a `&` to each of its fields
--     Chooses      the contract of `is_first`.        at_call, calls     the arguments of a call of it, and what is passed to it
--     told      a proof's step: what a caller has after such a call
--     at_choice      the boolean that chooses, by the layout of a type.        is_true, is_false     what a branch shows of it
pub use Rattle.aa_watched.proofs.Walk.{◌≡◌, ℕ, ◌+◌, ◌<◌, ◌^◌, Bool, List, [], ◌∷◌, refl, ap, w64, Bor, true, false, Ok, Err, T, arith, lit<, subst, suc, sym, ◌*◌, ◌++◌, ◌/◌, ◌∙◌, ◌%◌, ◌-◌, block_if_ok, owned_block, bool, usize, Al, α, seen, token, Answer, answer_val, Answer-typed, Answer-Ok, Answer-err, Takes, at_takes, Answered, Takes-goes, Takes-gives, answers, Gives, at_gives, Gives-goes, Gives-Gives, after, front, arm_body, proved, leaves, Ura, inst_fn, Args, Dict, a_type, dnil, dcons, named, Fn, Body, Ty, ty_array, ty_ptr, ty_int, ty_unit, Val, vunit, vint, vptr, vbool, WT, has_ty, Fml, Lft, Share, ftrue, fsep, flft, fex, froom, fwand, SProp, ent, emp, sep, wand, id⊢, fst∗, never, apply∗, ◌⊑◌, ⊑_trans, ⊑_meet, ⊑_static, Fun, fact, fact_i, tables, Dv, dv_self, capped_is, Memory, size, align, up, capped, Routine, Env, Wp, after_seq, at_return, WpFn, alloc_all, pass_all, free_all, look_at, get, get_in, get_tag, through, sets, sets_last, lands_as, env, lands_last, ‵, raw, ◌⊛◌, some, later, ◌$◌, ◌∵◌, !, qed, move, keep, drop, use0, use1, use2, split, split3, join, pick, fsplit, fjoin, feq_i, feq_l, flt_i, await, done, prop, at_ret, any_q, Sq, Post, given, learn, suffices, group, regoal, fpack, fpick, rewrite, frame, assume, by, Logic, sem, vrt, in_variant, agg, whole, stop, fld, addr, lit, no_more, and_then, of_opd, first, branches, skips, switches_on, exec, returns, returns_within, enter, unit_lit, blocks, false_lit, true_lit, hidden_shr, unhide, hide, bounded, param, layout, uint_vals, uint_Tells, RattleType, owns, Ptr, block_ptr, null_ptr, ptr_val, room_for, in_a_block, rawptr_vals, rawptr_Tells, ShrRef, shr_vals, types_at, nothing, only, heard, calls_at, calls_at_last, triple_of, Contract, framed, walk_of, ends_at, inner_of, dropped, gone, trues, spent, ended, Soaks, Item, Seq, Goal, mean, Laws, ⊑_refl, shr_dup, bin, neg_lit}
use base.Share
use Rattle.std.proofs.Common.{not}
pub use Rattle.aa_allocators.specs.Choices.{chosen_right, right_of}
use Rattle.aa_allocators.specs.declared.choice.Chooser.{Ghosts}
use Rattle.aa_allocators.specs.contracts.choice.Choice as choice
use Rattle.aa_allocators.specs.contracts.choice.Chooser.is_first as is_first

pub record Ch : Type 2 where
  pub row : RattleType
  pub laws : Laws row
  pub g : Ghosts row.Denot
  pub d : Dict
  pub drops : Dict

abbrev pub chooser_at : (Y : Ch) → Lft → Y.row.Denot → ℕ × ℕ → Fml
chooser_at Y κ w at = hidden_shr Y.row κ w at.0 at.1

module _ (Z X : Al) (Y : Ch) where
  abbrev pub generics : Args
  generics = bounded (a_type ∷ a_type ∷ a_type ∷ []) (Z.row, (X.row, (Y.row, tt))) (dcons Z.d (dcons X.d (dcons Y.d (dcons Z.drops (dcons X.drops (dcons Y.drops dnil))))))

  abbrev pub second_of : ℕ × ℕ → ℕ × ℕ
  second_of at = (at.0, at.1 + up (align (α X)) (up (align (α Z)) 0 + size (α Z)))

  abbrev pub chooser_of : ℕ × ℕ → ℕ × ℕ
  chooser_of at = (at.0, at.1 + up (align (layout Y.row)) (up (align (α X)) (up (align (α Z)) 0 + size (α Z)) + size (α X)))

  pub reaches : {M : Type 1} {𝓤 : Ura M} (𝓛 : Logic 𝓤) (κ : Lft) (r : Bor (choice.the_row Z.row X.row Y.row).Denot)
      → ent 𝓤 (sem 𝓛 ((ShrRef (named 0) κ (choice.the_row (param 0 Z.row) (param 1 X.row) (param 2 Y.row))).own_val r (shr_vals r)))
      (sep 𝓤 (sem 𝓛 (seen Z κ (inner_of Z r.ref_ptr) r.now.first)) (sep 𝓤 (sem 𝓛 (seen X κ (second_of r.ref_ptr) r.now.second)) (sem 𝓛 (chooser_at Y κ r.now.chooser (chooser_of r.ref_ptr)))))
  reaches 𝓛 κ r =
      qed 𝓛 (‵ ((ShrRef (named 0) κ (choice.the_row (param 0 Z.row) (param 1 X.row) (param 2 Y.row))).own_val r (shr_vals r)) ∷ []) ∵ fsplit ! $ drop ! $ unhide ! $ fsplit ! $ fsplit ! $ move ! (1 ∷ []) $ fsplit ! $ move ! (1 ∷ []) $ fsplit ! $
      keep ! (3 ∷ 2 ∷ 0 ∷ []) $ done !

module _ (Y : Ch) {M : Type 1} {𝓤 : Ura M} (𝓛 : Logic 𝓤) (at_mem : Memory → SProp 𝓤) (run : Routine → Fun 𝓤) where
  open 𝓛 use {H, A}

  abbrev pub Chooses : Contract 𝓤
  Chooses = triple_of 𝓛 (is_first.signature Y.row) (is_first.spec Y.row Y.g Y.d Y.drops 𝓛 at_mem run)

  module _ (κ : Lft) (q : Share) (w : Y.row.Denot) (at : ℕ × ℕ) (n al : ℕ) where
    abbrev pub at_call : Chooses.Ghost
    at_call = (((κ, (κ, tt)), (Share.left q, (Share.right q, tt)), (⊑_refl κ, tt), (record { ref_ptr = at; now = w }, (n, (al, tt))), (vptr at.0 at.1 ∷ [], (vint w64 n ∷ [], (vint w64 al ∷ [], tt)))), tt)

    pub calls : κ ⊑ Y.row.lives → n < 2 ^ 64 → al < 2 ^ 64 → ent 𝓤 (sep 𝓤 (sem 𝓛 (chooser_at Y κ w at)) (A.lft κ q)) (Chooses.pre at_call)
    calls le fits al_fits =
        qed 𝓛 (‵ (chooser_at Y κ w at) ∷ ‵ (flft κ q) ∷ []) ∵ nothing ! $ use0 𝓛 (raw (fact 𝓤 (κ ⊑ Y.row.lives))) (fact_i 𝓤 (κ ⊑ Y.row.lives) (emp 𝓤) le) $ join ! $
        nothing ! $ flt_i ! al (2 ^ 64) al_fits $ feq_i ! (List Val) (vint w64 al ∷ []) (vint w64 al ∷ []) refl $ fjoin ! $ fjoin ! $
        flt_i ! n (2 ^ 64) fits $ feq_i ! (List Val) (vint w64 n ∷ []) (vint w64 n ∷ []) refl $ fjoin ! $ fjoin ! $
        move ! (2 ∷ []) $ feq_i ! (List Val) (vptr at.0 at.1 ∷ []) (vptr at.0 at.1 ∷ []) refl $ fjoin ! $ move ! (0 ∷ 1 ∷ []) $ fjoin ! $
        move ! (2 ∷ []) $ use1 𝓛 (‵ (flft κ (Share.left q)) ⊛ ‵ (flft κ (Share.right q))) (𝓛.lfts.lft_split κ q) $ split ! $ nothing ! $ move ! (2 ∷ 0 ∷ []) $ join ! $ move ! (1 ∷ 0 ∷ []) $ join ! $ join ! $ done !

module _ {M : Type 1} {𝓤 : Ura M} (𝓛 : Logic 𝓤) (κ : Lft) (q : Share) (v : Val) (φ : Bool → Type 0) (W : Type 0) where
  open 𝓛 use {H}

  abbrev Given : Item 𝓤
  Given = later (some (λ (x : Bool). ((‵ (flft κ (Share.left q)) ⊛ ‵ (flft κ (Share.right q)) ⊛ ‵ ftrue) ⊛ ‵ (bool.own_val x (v ∷ []))) ⊛ some (λ (_ : W). ‵ (trues 𝓛 3) ⊛ raw (fact 𝓤 (φ x)))))

  pub told : {K : Type 0} {Γ : List (Item 𝓤)} {G : Goal 𝓤 H} → K → Soaks G
      → ((x : Bool) → v ≡ vbool x → φ x → Seq K 𝓛 (‵ (flft κ q) ∷ Γ) G) → Seq K 𝓛 (raw (mean 𝓛 Given) ∷ Γ) G
  told t z k =
      use1 𝓛 Given (id⊢ 𝓤 (mean 𝓛 Given)) $ await t z $ pick t (λ x. split t $ move t (1 ∷ []) $ pick t (λ _. split t $ drop t $
      heard t (φ x) (λ is. split t $ move t (1 ∷ []) $ feq_l t (λ e. split3 t $
      use2 𝓛 (‵ (flft κ q)) (𝓛.lfts.lft_join κ q) $ move t (1 ∷ []) $ drop t $ k x (ap only e) is))))

pub at_choice : (f : ℕ → ℕ → Bool) (τ : Ty) (n al : ℕ) (x y : Bool) → (capped (size τ) ≡ n) × (capped (align τ) ≡ al) → x ≡ y → x ≡ f n al → y ≡ f (capped (size τ)) (capped (align τ))
at_choice f τ n al x y fits same is = sym same ∙ (is ∙ (λ i. f (sym fits.0 i) (sym fits.1 i)))

pub is_true : (x : Bool) → T x → x ≡ true
is_true true t = refl
is_true false t = elim t [ ]

pub is_false : (x : Bool) → T (not x) → x ≡ false
is_false true t = elim t [ ]
is_false false t = refl
