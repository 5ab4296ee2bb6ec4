-- What the walks over blocks with a word after them have in common. Assumes `Logic`.
--     Sizes, Aligns, Writes      the contracts of `suffixed_size`, `suffixed_align` and `write_word`.        sizes, aligns, writes     the arguments of a call of each.        sizes_go, aligns_go, writes_go     what is passed to it
--     measured_bare, wrote      a proof's step: what a caller has after such a call
--     word_part      room for a block with a word after it is room for both, with a way back
--     placed      the numbers of such a block.        parts, packs      its room is parted, and the right to free it is made
--     bit_fits, is_one, is_zero      a boolean as a word
--     generics, second_of, reaches      of a `Fallback`: its type arguments, where its second allocator lies, and that a `&` to it is a `&` to each.        reaches_guarded     the same of a `Guarded`
pub use Rattle.aa_watched.proofs.Walk.{◌≡◌, ℕ, ◌+◌, ◌<◌, ◌^◌, Bool, List, [], ◌∷◌, refl, ap, w64, Bor, true, false, Ok, Err, T, arith, lit<, subst, suc, sym, ◌*◌, ◌++◌, ◌/◌, ◌∙◌, ◌%◌, ◌-◌, block_if_ok, owned_block, bool, usize, Al, α, seen, token, Answer, answer_val, Answer-typed, Answer-Ok, Answer-err, Takes, at_takes, Answered, Takes-goes, Takes-gives, answers, Gives, at_gives, Gives-goes, Gives-Gives, after, front, arm_body, proved, leaves, Ura, inst_fn, Args, Dict, a_type, dnil, dcons, named, Fn, Body, Ty, ty_array, ty_ptr, ty_int, ty_unit, Val, vunit, vint, vptr, vbool, WT, has_ty, Fml, Lft, Share, ftrue, fsep, flft, fex, froom, fwand, SProp, ent, emp, sep, wand, id⊢, fst∗, never, apply∗, ◌⊑◌, ⊑_trans, ⊑_meet, ⊑_static, Fun, fact, fact_i, tables, Dv, dv_self, capped_is, Memory, size, align, up, capped, Routine, Env, Wp, after_seq, at_return, WpFn, alloc_all, pass_all, free_all, look_at, get, get_in, get_tag, through, sets, sets_last, lands_as, env, lands_last, ‵, raw, ◌⊛◌, some, later, ◌$◌, ◌∵◌, !, qed, move, keep, drop, use0, use1, use2, split, split3, join, pick, fsplit, fjoin, feq_i, feq_l, flt_i, await, done, prop, at_ret, any_q, Sq, Post, given, learn, suffices, group, regoal, fpack, fpick, rewrite, frame, assume, by, Logic, sem, vrt, in_variant, agg, whole, stop, fld, addr, lit, no_more, and_then, of_opd, first, branches, skips, switches_on, exec, returns, returns_within, enter, unit_lit, blocks, false_lit, true_lit, hidden_shr, unhide, hide, bounded, param, layout, uint_vals, uint_Tells, RattleType, owns, Ptr, block_ptr, null_ptr, ptr_val, room_for, in_a_block, rawptr_vals, rawptr_Tells, ShrRef, shr_vals, types_at, nothing, only, heard, calls_at, calls_at_last, triple_of, Contract, framed, walk_of, ends_at, inner_of, dropped, gone, trues, spent, ended, Soaks, Item, Seq, Goal, mean, Laws, ⊑_refl, shr_dup, bin, neg_lit, full_share, fat, assigns, init, look, load, zero, unit, RawPtr}
pub use Rattle.std.proofs.Common.{nltb→le}
pub use types.Kit.{flt_l}
pub use Rattle.std.specs.Prelude.{◌≤◌, max}
pub use Rattle.aa_allocators.specs.Choices.{right_of}
pub use Rattle.aa_allocators.specs.Layers.{IsAlignment, IsRequestedFor, padded}
pub use Rattle.aa_allocators.specs.Suffixes.{IsSuffixed, suffixed_right, fallback_right, canary, word_align, word_at, word_room}
pub use Rattle.aa_allocators.proofs.Layering.{is_alignment, wider, is_wider, in_units, few, asked, found, width_of, is_width}
use Rattle.aa_allocators.proofs.Layering.{carved, ratio, unsaturated}
pub use Rattle.aa_allocators.proofs.Shelving.{exact, align_exact}
pub use mir.Val.{bytes}
use native.Mathlib.Nat.{suc-mul, zero-mul}
pub use lib.Dec.{eqb}
use prog.Memory.{pad}
use Rattle.std.proofs.Common.{not}
pub use Rattle.std.specs.Int.{from_bool}
use Rattle.aa_allocators.specs.contracts.fallback.Fallback as fallback
use Rattle.aa_allocators.specs.contracts.guarded.Guarded as guarded
use mir.Syntax.{Width}
use prog.Align.{align_w, align-bytes, align_size, dv→}
use denote.RawPtr.Room.{room_cut, room_glue, past}
use Rattle.aa_allocators.specs.contracts.suffix.suffixed_size as suffixed_size
use Rattle.aa_allocators.specs.contracts.suffix.suffixed_align as suffixed_align
use Rattle.aa_allocators.specs.contracts.suffix.write_word as write_word

module _ {M : Type 1} {𝓤 : Ura M} (𝓛 : Logic 𝓤) (at_mem : Memory → SProp 𝓤) (run : Routine → Fun 𝓤) where
  abbrev pub Sizes : Contract 𝓤
  Sizes = triple_of 𝓛 suffixed_size.signature (suffixed_size.spec 𝓛 at_mem run)

  abbrev pub sizes : ℕ → ℕ → Sizes.Ghost
  sizes n al = ((tt, tt, tt, (n, (al, tt)), (vint w64 n ∷ [], (vint w64 al ∷ [], tt))), tt)

  pub sizes_go : (n al : ℕ) → IsAlignment al → n < 2 ^ 64 → al < 2 ^ 64 → ent 𝓤 (emp 𝓤) (Sizes.pre (sizes n al))
  sizes_go n al is fn fa =
      qed 𝓛 [] ∵ use0 𝓛 (raw (fact 𝓤 (IsAlignment al))) (fact_i 𝓤 (IsAlignment al) (emp 𝓤) is) $ nothing ! $
      flt_i ! al (2 ^ 64) fa $ feq_i ! (List Val) (vint w64 al ∷ []) (vint w64 al ∷ []) refl $ fjoin ! $ fjoin ! $
      flt_i ! n (2 ^ 64) fn $ feq_i ! (List Val) (vint w64 n ∷ []) (vint w64 n ∷ []) refl $ fjoin ! $ fjoin ! $ nothing ! $ join ! $ join ! $ done !

  abbrev pub Aligns : Contract 𝓤
  Aligns = triple_of 𝓛 suffixed_align.signature (suffixed_align.spec 𝓛 at_mem run)

  abbrev pub aligns : ℕ → Aligns.Ghost
  aligns al = ((tt, tt, tt, (al, tt), (vint w64 al ∷ [], tt)), tt)

  pub aligns_go : (al : ℕ) → IsAlignment al → al < 2 ^ 64 → ent 𝓤 (emp 𝓤) (Aligns.pre (aligns al))
  aligns_go al is fa =
      qed 𝓛 [] ∵ use0 𝓛 (raw (fact 𝓤 (IsAlignment al))) (fact_i 𝓤 (IsAlignment al) (emp 𝓤) is) $ nothing ! $
      flt_i ! al (2 ^ 64) fa $ feq_i ! (List Val) (vint w64 al ∷ []) (vint w64 al ∷ []) refl $ fjoin ! $ fjoin ! $ nothing ! $ join ! $ join ! $ done !

  abbrev pub Writes : Contract 𝓤
  Writes = triple_of 𝓛 write_word.signature (write_word.spec 𝓛 at_mem run)

  abbrev pub writes : ℕ → ℕ → ℕ → ℕ → Writes.Ghost
  writes b o at w = ((tt, tt, tt, (block_ptr b o, (at, (w, tt))), (vptr b o ∷ [], (vint w64 at ∷ [], (vint w64 w ∷ [], tt)))), tt)

  pub writes_go : (b o at w : ℕ) → at < 2 ^ 64 → w < 2 ^ 64 → ent 𝓤 (sem 𝓛 (froom (ty_int w64) b (at + o))) (Writes.pre (writes b o at w))
  writes_go b o at w fat' fw =
      qed 𝓛 (‵ (froom (ty_int w64) b (at + o)) ∷ []) ∵ nothing ! $
      flt_i ! w (2 ^ 64) fw $ feq_i ! (List Val) (vint w64 w ∷ []) (vint w64 w ∷ []) refl $ fjoin ! $ fjoin ! $
      flt_i ! at (2 ^ 64) fat' $ feq_i ! (List Val) (vint w64 at ∷ []) (vint w64 at ∷ []) refl $ fjoin ! $ fjoin ! $
      feq_i ! (List Val) (vptr b o ∷ []) (vptr b o ∷ []) refl $ fjoin ! $ nothing ! $ join ! $ join ! $ done !

module _ {M : Type 1} {𝓤 : Ura M} (𝓛 : Logic 𝓤) (v : Val) (k : ℕ) (φ : ℕ → Type 0) (W : Type 0) where
  open 𝓛 use {H}

  abbrev Given : Item 𝓤
  Given = later (some (λ (m : ℕ). (‵ ftrue ⊛ ‵ (usize.own_val m (v ∷ []))) ⊛ some (λ (_ : W). ‵ (trues 𝓛 k) ⊛ raw (fact 𝓤 (φ m)))))

  pub measured_bare : {K : Type 0} {Γ : List (Item 𝓤)} {G : Goal 𝓤 H} → K → Soaks G
      → ((m : ℕ) → v ≡ vint w64 m → m < 2 ^ 64 → φ m → Seq K 𝓛 Γ G) → Seq K 𝓛 (raw (mean 𝓛 Given) ∷ Γ) G
  measured_bare t z next =
      use1 𝓛 Given (id⊢ 𝓤 (mean 𝓛 Given)) $ await t z $ pick t (λ m. split t $ move t (1 ∷ []) $ pick t (λ _. split t $ drop t $
      heard t (φ m) (λ told. split t $ drop t $ fsplit t $ feq_l t (λ e. flt_l t (λ fits. next m (ap only e) fits told)))))

module _ {M : Type 1} {𝓤 : Ura M} (𝓛 : Logic 𝓤) (v : Val) (P : Fml) (W : Type 0) where
  open 𝓛 use {H}

  abbrev Written : Item 𝓤
  Written = later (some (λ (r : Unit {0}). (‵ ftrue ⊛ ‵ (unit.own_val r (v ∷ []))) ⊛ some (λ (_ : W). ‵ (trues 𝓛 3) ⊛ ‵ P)))

  pub wrote : {K : Type 0} {Γ : List (Item 𝓤)} {G : Goal 𝓤 H} → K → Soaks G
      → (v ≡ vunit → Seq K 𝓛 (‵ P ∷ Γ) G) → Seq K 𝓛 (raw (mean 𝓛 Written) ∷ Γ) G
  wrote t z next =
      use1 𝓛 Written (id⊢ 𝓤 (mean 𝓛 Written)) $ await t z $ pick t (λ r. split t $ split t $ drop t $ feq_l t (λ e. pick t (λ _. split t $ drop t $ next (ap only e))))

past_is : (w : Width) (j o : ℕ) → past (ty_int w) j o ≡ j * bytes w + o
past_is w zero o = omega (arith)
past_is w (suc j) o = past_is w j (o + bytes w) ∙ (let e = suc-mul j (bytes w) in omega (arith, e))

module _ {M : Type 1} {𝓤 : Ura M} (𝓛 : Logic 𝓤) where
  open 𝓛 use {H}

  module _ (w' : Width) (τ : Ty) (j b o : ℕ) where
    abbrev Units : ℕ → ℕ → SProp 𝓤
    Units i p = H.room (ty_array (ty_int w') i) b p

    abbrev place : ℕ
    place = j * bytes w' + o

    abbrev Word : SProp 𝓤
    Word = H.room (ty_int w64) b place

    cuts : ent 𝓤 (Units (j + 1) o) (sep 𝓤 (Units j o) (Units 1 place))
    cuts = subst (λ (p : ℕ). ent 𝓤 (Units (j + 1) o) (sep 𝓤 (Units j o) (Units 1 p))) (past_is w' j o) (room_cut 𝓛 (ty_int w') j 1 b o)

    glues : ent 𝓤 (sep 𝓤 (Units j o) (Units 1 place)) (Units (j + 1) o)
    glues = subst (λ (p : ℕ). ent 𝓤 (sep 𝓤 (Units j o) (Units 1 p)) (Units (j + 1) o)) (past_is w' j o) (room_glue 𝓛 (ty_int w') j 1 b o)

    pub word_part : align τ ≤ bytes w' → 8 ≤ bytes w' → size τ ≤ j * bytes w'
        → ent 𝓤 (Units (j + 1) o) (sep 𝓤 (H.room τ b o) (sep 𝓤 Word (wand 𝓤 (H.room τ b o) (wand 𝓤 Word (Units (j + 1) o)))))
    word_part lined worded fits =
        let w = align_w τ in let al : align τ ≡ bytes w = align-bytes τ in let Head = H.room τ b o in
        let one : 8 ≤ 1 * bytes w' = omega (arith, worded) in
        qed 𝓛 (raw (Units (j + 1) o) ∷ []) ∵ use1 𝓛 (raw (Units j o) ⊛ raw (Units 1 place)) cuts $ split ! $
        use1 𝓛 (raw Head ⊛ raw (wand 𝓤 Head (Units j o))) (carved 𝓛 w w' τ j b o al (dv→ (bytes w) (size τ) (subst (λ (a : ℕ). Dv a (size τ)) al (align_size τ))) fits (ratio w w' (subst (λ (x : ℕ). x ≤ bytes w') al lined))) $ split ! $ move ! (2 ∷ []) $
        use1 𝓛 (raw Word ⊛ raw (wand 𝓤 Word (Units 1 place))) (carved 𝓛 w64 w' (ty_int w64) 1 b place refl refl one (ratio w64 w' worded)) $ split ! $
        move ! (2 ∷ []) $ frame ! $ frame ! $ assume ! (raw Head) $ assume ! (raw Word) $
        move ! (1 ∷ 3 ∷ []) $ use2 𝓛 (raw (Units j o)) (apply∗ 𝓤 Head (Units j o)) $
        move ! (1 ∷ 2 ∷ []) $ use2 𝓛 (raw (Units 1 place)) (apply∗ 𝓤 Word (Units 1 place)) $ move ! (1 ∷ []) $ by ! glues

abbrev LastUnit : ℕ → ℕ → ℕ → Type 0
LastUnit q k m = (j : ℕ) × (j + 1 ≡ q) × (j * k ≡ m - k)

last_unit : (q k m : ℕ) → q * k ≡ m → 0 < m → LastUnit q k m
last_unit zero k m e pos = absurd (omega (arith, e, pos, zero-mul k))
last_unit (suc q) k m e pos = let apart = suc-mul q k in (q, omega arith, omega (arith, e, apart))

past_word : (n k x m : ℕ) → m ≡ n + k + x → (n ≤ m - k) × (k ≤ m)
past_word n k x m e = (omega (arith, e), omega (arith, e))

pub record Placed (n al m k : ℕ) : Type 0 where
  pub fits : n ≤ m - k
  pub within : k ≤ m
  pub worded : 8 ≤ k

-- the block fits before its word
pub placed : (n al m k : ℕ) → m ≡ padded (n + word_align al) (word_align al) → k ≡ word_align al → m < 2 ^ 63 → Placed n al m k
placed n al m k sized lined small =
    let K = word_align al in let exactly : m ≡ up K (n + K) = unsaturated (up K (n + K)) m sized small in
    let is = past_word n K (pad K (n + K)) m exactly in
    record { fits = subst (λ (x : ℕ). n ≤ m - x) (sym lined) is.0; within = subst (λ (x : ℕ). x ≤ m) (sym lined) is.1; worded = omega (arith, lined) }

module _ {M : Type 1} {𝓤 : Ura M} (𝓛 : Logic 𝓤) (τ : Ty) (m k : ℕ) (is : IsAlignment k) (b o : ℕ) where
  open 𝓛 use {H}

  abbrev pub Parts : SProp 𝓤
  Parts = sep 𝓤 (H.room τ b o) (sep 𝓤 (H.room (ty_int w64) b (m - k + o)) (wand 𝓤 (H.room τ b o) (wand 𝓤 (H.room (ty_int w64) b (m - k + o)) (H.room (wider m k is) b o))))

  pub parts : m / k * k ≡ m → size τ ≤ m - k → align τ ≤ k → 8 ≤ k → k ≤ m → ent 𝓤 (H.room (wider m k is) b o) Parts
  parts units fits lined worded within =
      let w' = width_of k is in let ka : bytes w' ≡ k = is_width k is in
      let last = last_unit (m / k) k m units (omega (arith, worded, within)) in let j = last.0 in
      let place : j * bytes w' ≡ m - k = ap (λ (x : ℕ). j * x) ka ∙ last.2 in
      let All = λ (x : ℕ × ℕ). ent 𝓤 (H.room (ty_array (ty_int w') x.0) b o) (sep 𝓤 (H.room τ b o) (sep 𝓤 (H.room (ty_int w64) b (x.1 + o)) (wand 𝓤 (H.room τ b o) (wand 𝓤 (H.room (ty_int w64) b (x.1 + o)) (H.room (ty_array (ty_int w') x.0) b o))))) in
      subst All (λ i. (last.1 i, place i))
      (word_part 𝓛 w' τ j b o (subst (λ (x : ℕ). align τ ≤ x) (sym ka) lined) (subst (λ (x : ℕ). 8 ≤ x) (sym ka) worded) (subst (λ (x : ℕ). size τ ≤ x) (sym place) fits))

module _ {M : Type 1} {𝓤 : Ura M} (𝓛 : Logic 𝓤) (t : Ty → Ptr → Fml) (τ σ : Ty) (b o at w : ℕ) where
  abbrev word_here : ℕ → Fml
  word_here x = fat full_share (ty_int w64) b (x + o) (vint w64 w)

  abbrev way_here : ℕ → Fml
  way_here x = fwand (froom τ b o) (fwand (froom (ty_int w64) b (x + o)) (froom σ b o))

  abbrev pub Suffixed : SProp 𝓤
  Suffixed = sep 𝓤 (sem 𝓛 (word_here at)) (sep 𝓤 (sem 𝓛 (way_here at)) (sem 𝓛 (t σ (block_ptr b o))))

  -- the word, the way to the whole room and the right to free it are the right to free the block
  pub packs : IsSuffixed τ σ → at ≡ size σ - align σ → ent 𝓤 Suffixed (sem 𝓛 (suffixed_right w t τ (block_ptr b o)))
  packs is e =
      let Rest = λ (ρ : Ty). fsep (fat full_share (ty_int w64) b (size ρ - align ρ + o) (vint w64 w)) (fsep
      (fwand (froom τ b o) (fwand (froom (ty_int w64) b (size ρ - align ρ + o)) (froom ρ b o))) (t ρ (block_ptr b o))) in
      qed 𝓛 (‵ (word_here at) ∷ ‵ (way_here at) ∷ ‵ (t σ (block_ptr b o)) ∷ []) ∵
      rewrite ! 0 (λ (x : ℕ). ‵ (word_here x)) e refl $ rewrite ! 1 (λ (x : ℕ). ‵ (way_here x)) e refl $
      move ! (1 ∷ 2 ∷ []) $ fjoin ! $ move ! (1 ∷ 0 ∷ []) $ fjoin ! $
      fpack ! (IsSuffixed τ σ) (λ _. Rest σ) is $ fpack ! Ty (λ ρ. fex (IsSuffixed τ ρ) (λ _. Rest ρ)) σ $ done !

pub bit_fits : (x : Bool) → from_bool x < 2 ^ 64
bit_fits true = lit< tt
bit_fits false = lit< tt

pub is_one : (x : Bool) → T (eqb (from_bool x) 1) → x ≡ true
is_one true t = refl
is_one false t = elim t [ ]

pub is_zero : (x : Bool) → T (not (eqb (from_bool x) 1)) → x ≡ false
is_zero true t = elim t [ ]
is_zero false t = refl

module _ (Z X : Al) where
  abbrev pub generics : Args
  generics = bounded (a_type ∷ a_type ∷ []) (Z.row, (X.row, tt)) (dcons Z.d (dcons X.d (dcons Z.drops (dcons X.drops dnil))))

  abbrev pub second_of : ℕ × ℕ → ℕ × ℕ
  second_of at = (at.0, at.1 + up (align (α X)) (up (align (α Z)) 0 + size (α Z)))

  pub reaches : {M : Type 1} {𝓤 : Ura M} (𝓛 : Logic 𝓤) (κ : Lft) (r : Bor (fallback.the_row Z.row X.row).Denot)
      → ent 𝓤 (sem 𝓛 ((ShrRef (named 0) κ (fallback.the_row (param 0 Z.row) (param 1 X.row))).own_val r (shr_vals r))) (sep 𝓤 (sem 𝓛 (seen Z κ (inner_of Z r.ref_ptr) r.now.first)) (sem 𝓛 (seen X κ (second_of r.ref_ptr) r.now.second)))
  reaches 𝓛 κ r =
      qed 𝓛 (‵ ((ShrRef (named 0) κ (fallback.the_row (param 0 Z.row) (param 1 X.row))).own_val r (shr_vals r)) ∷ []) ∵ fsplit ! $ drop ! $ unhide ! $ fsplit ! $ fsplit ! $ move ! (1 ∷ []) $ fsplit ! $ keep ! (2 ∷ 0 ∷ []) $ done !

pub reaches_guarded : (Z : Al) {M : Type 1} {𝓤 : Ura M} (𝓛 : Logic 𝓤) (κ : Lft) (r : Bor (guarded.the_row Z.row).Denot)
    → ent 𝓤 (sem 𝓛 ((ShrRef (named 0) κ (guarded.the_row (param 0 Z.row))).own_val r (shr_vals r))) (sem 𝓛 (seen Z κ (inner_of Z r.ref_ptr) r.now.inner))
reaches_guarded Z 𝓛 κ r =
    qed 𝓛 (‵ ((ShrRef (named 0) κ (guarded.the_row (param 0 Z.row))).own_val r (shr_vals r)) ∷ []) ∵ fsplit ! $ drop ! $ unhide ! $ fsplit ! $ fsplit ! $ keep ! (0 ∷ []) $ done !
