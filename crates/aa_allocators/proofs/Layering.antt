-- What the walks of an allocator with a layer have in common. Assumes `Logic`.
--     La      the layer's row, with what a statement assumes of it
--     generics, layer_of      the type arguments of both walks, and where the layer lies.        layer_at     a `&` to it
--     reaches      a `&Layered` is a `&` to each of its fields
--     Sizes, Aligns      the contracts of `requested_size` and `requested_align`.        at_call, calls     the arguments of a call of either, and what is passed to it
--     measured      a proof's step: what a caller has after such a call
--     width_of, is_alignment      the integer of an alignment, and the alignment of a type
--     wider      the type that is requested for a size and an alignment.        is_wider     it has that layout
--     lends_part      room for it is room for a smaller type, with a way back
pub use Rattle.aa_watched.proofs.Walk.{◌≡◌, ℕ, ◌+◌, ◌<◌, ◌^◌, Bool, List, [], ◌∷◌, refl, ap, w64, Bor, true, false, Ok, Err, T, arith, lit<, subst, suc, sym, ◌*◌, ◌++◌, ◌/◌, ◌∙◌, ◌%◌, ◌-◌, block_if_ok, owned_block, bool, usize, Al, α, seen, token, Answer, answer_val, Answer-typed, Answer-Ok, Answer-err, Takes, at_takes, Answered, Takes-goes, Takes-gives, answers, Gives, at_gives, Gives-goes, Gives-Gives, after, front, arm_body, proved, leaves, Ura, inst_fn, Args, Dict, a_type, dnil, dcons, named, Fn, Body, Ty, ty_array, ty_ptr, ty_int, ty_unit, Val, vunit, vint, vptr, vbool, WT, has_ty, Fml, Lft, Share, ftrue, fsep, flft, fex, froom, fwand, SProp, ent, emp, sep, wand, id⊢, fst∗, never, apply∗, ◌⊑◌, ⊑_trans, ⊑_meet, ⊑_static, Fun, fact, fact_i, tables, Dv, dv_self, capped_is, Memory, size, align, up, capped, Routine, Env, Wp, after_seq, at_return, WpFn, alloc_all, pass_all, free_all, look_at, get, get_in, get_tag, through, sets, sets_last, lands_as, env, lands_last, ‵, raw, ◌⊛◌, some, later, ◌$◌, ◌∵◌, !, qed, move, keep, drop, use0, use1, use2, split, split3, join, pick, fsplit, fjoin, feq_i, feq_l, flt_i, await, done, prop, at_ret, any_q, Sq, Post, given, learn, suffices, group, regoal, fpack, fpick, rewrite, frame, assume, by, Logic, sem, vrt, in_variant, agg, whole, stop, fld, addr, lit, no_more, and_then, of_opd, first, branches, skips, switches_on, exec, returns, returns_within, enter, unit_lit, blocks, false_lit, true_lit, hidden_shr, unhide, hide, bounded, param, layout, Laws, ⊑_refl, shr_dup, bin, neg_lit, uint_vals, uint_Tells, RattleType, owns, Ptr, block_ptr, null_ptr, ptr_val, room_for, in_a_block, rawptr_vals, rawptr_Tells, ShrRef, shr_vals, types_at, nothing, only, heard, calls_at, calls_at_last, triple_of, Contract, framed, walk_of, ends_at, inner_of, dropped, gone, trues, spent, zero, ended, Slot, Soaks, Item, Seq, Goal, mean}
pub use types.Kit.{flt_l}
use base.Share
pub use Rattle.std.proofs.Common.{nltb→le}
use mir.Syntax.{Width, w8, w16, w32, w128}
use mir.Val.{bytes}
use native.Mathlib.Nat.{mul_assoc}
use prog.Align.{align_w, align-bytes, align_size, dv→, dv_up}
use denote.RawPtr.Room.{room_cut, room_glue, past}
pub use Rattle.std.specs.Prelude.{◌≤◌, ◌⊎◌, min}
use Rattle.std.proofs.Common.{inl, inr}
use Rattle.std.specs.Allocator.{HasLayout}
pub use Rattle.aa_allocators.specs.Layers.{IsAlignment, IsRequestedFor, layered_right, padded}
use Rattle.aa_allocators.specs.declared.layered.Layer.{Ghosts}
use Rattle.aa_allocators.specs.contracts.layered.Layered as layered
use Rattle.aa_allocators.specs.contracts.layered.requested_size as requested_size
use Rattle.aa_allocators.specs.contracts.layered.requested_align as requested_align

pub record La : Type 2 where
  pub row : RattleType
  pub laws : Laws row
  pub g : Ghosts row.Denot
  pub d : Dict
  pub drops : Dict

abbrev pub layer_at : (Y : La) → Lft → Y.row.Denot → ℕ × ℕ → Fml
layer_at Y κ w at = hidden_shr Y.row κ w at.0 at.1

module _ (Z : Al) (Y : La) where
  abbrev pub generics : Args
  generics = bounded (a_type ∷ a_type ∷ []) (Z.row, (Y.row, tt)) (dcons Z.d (dcons Y.d (dcons Z.drops (dcons Y.drops dnil))))

  abbrev pub layer_of : ℕ × ℕ → ℕ × ℕ
  layer_of at = (at.0, at.1 + up (align (layout Y.row)) (up (align (α Z)) 0 + size (α Z)))

  pub reaches : {M : Type 1} {𝓤 : Ura M} (𝓛 : Logic 𝓤) (κ : Lft) (r : Bor (layered.the_row Z.row Y.row).Denot)
      → ent 𝓤 (sem 𝓛 ((ShrRef (named 0) κ (layered.the_row (param 0 Z.row) (param 1 Y.row))).own_val r (shr_vals r))) (sep 𝓤 (sem 𝓛 (seen Z κ (inner_of Z r.ref_ptr) r.now.inner)) (sem 𝓛 (layer_at Y κ r.now.layer (layer_of r.ref_ptr))))
  reaches 𝓛 κ r =
      qed 𝓛 (‵ ((ShrRef (named 0) κ (layered.the_row (param 0 Z.row) (param 1 Y.row))).own_val r (shr_vals r)) ∷ []) ∵ fsplit ! $ drop ! $ unhide ! $ fsplit ! $ fsplit ! $ move ! (1 ∷ []) $ fsplit ! $ keep ! (2 ∷ 0 ∷ []) $ done !

module _ (Y : La) {M : Type 1} {𝓤 : Ura M} (𝓛 : Logic 𝓤) (at_mem : Memory → SProp 𝓤) (run : Routine → Fun 𝓤) where
  open 𝓛 use {H, A}

  abbrev pub Sizes : Contract 𝓤
  Sizes = triple_of 𝓛 (requested_size.signature Y.row) (requested_size.spec Y.row Y.g Y.d Y.drops 𝓛 at_mem run)

  abbrev pub Aligns : Contract 𝓤
  Aligns = triple_of 𝓛 (requested_align.signature Y.row) (requested_align.spec Y.row Y.g Y.d Y.drops 𝓛 at_mem run)

  module _ (κ : Lft) (q : Share) (w : Y.row.Denot) (at : ℕ × ℕ) (n al : ℕ) where
    abbrev pub at_call : Sizes.Ghost
    at_call = (((κ, (κ, tt)), (Share.left q, (Share.right q, tt)), (⊑_refl κ, tt), (record { ref_ptr = at; now = w }, (n, (al, tt))), (vptr at.0 at.1 ∷ [], (vint w64 n ∷ [], (vint w64 al ∷ [], tt)))), tt)

    pub calls : κ ⊑ Y.row.lives → IsAlignment al → n < 2 ^ 64 → al < 2 ^ 64 → ent 𝓤 (sep 𝓤 (sem 𝓛 (layer_at Y κ w at)) (A.lft κ q)) (Sizes.pre at_call)
    calls le is fits al_fits =
        qed 𝓛 (‵ (layer_at Y κ w at) ∷ ‵ (flft κ q) ∷ []) ∵
        use0 𝓛 (raw (fact 𝓤 (IsAlignment al))) (fact_i 𝓤 (IsAlignment al) (emp 𝓤) is) $
        use0 𝓛 (raw (fact 𝓤 (κ ⊑ Y.row.lives))) (fact_i 𝓤 (κ ⊑ Y.row.lives) (emp 𝓤) le) $ join ! $
        nothing ! $ flt_i ! al (2 ^ 64) al_fits $ feq_i ! (List Val) (vint w64 al ∷ []) (vint w64 al ∷ []) refl $ fjoin ! $ fjoin ! $
        flt_i ! n (2 ^ 64) fits $ feq_i ! (List Val) (vint w64 n ∷ []) (vint w64 n ∷ []) refl $ fjoin ! $ fjoin ! $
        move ! (2 ∷ []) $ feq_i ! (List Val) (vptr at.0 at.1 ∷ []) (vptr at.0 at.1 ∷ []) refl $ fjoin ! $ move ! (0 ∷ 1 ∷ []) $ fjoin ! $
        move ! (2 ∷ []) $ use1 𝓛 (‵ (flft κ (Share.left q)) ⊛ ‵ (flft κ (Share.right q))) (𝓛.lfts.lft_split κ q) $ split ! $ nothing ! $ move ! (2 ∷ 0 ∷ []) $ join ! $ move ! (1 ∷ 0 ∷ []) $ join ! $ join ! $ done !

module _ {M : Type 1} {𝓤 : Ura M} (𝓛 : Logic 𝓤) (κ : Lft) (q : Share) (v : Val) (φ : ℕ → Type 0) (W : Type 0) where
  open 𝓛 use {H}

  abbrev Given : Item 𝓤
  Given = later (some (λ (m : ℕ). ((‵ (flft κ (Share.left q)) ⊛ ‵ (flft κ (Share.right q)) ⊛ ‵ ftrue) ⊛ ‵ (usize.own_val m (v ∷ []))) ⊛ some (λ (_ : W). ‵ (trues 𝓛 3) ⊛ raw (fact 𝓤 (φ m)))))

  pub measured : {K : Type 0} {Γ : List (Item 𝓤)} {G : Goal 𝓤 H} → K → Soaks G
      → ((m : ℕ) → v ≡ vint w64 m → m < 2 ^ 64 → φ m → Seq K 𝓛 (‵ (flft κ q) ∷ Γ) G) → Seq K 𝓛 (raw (mean 𝓛 Given) ∷ Γ) G
  measured t z k =
      use1 𝓛 Given (id⊢ 𝓤 (mean 𝓛 Given)) $ await t z $ pick t (λ m. split t $ move t (1 ∷ []) $ pick t (λ _. split t $ drop t $
      heard t (φ m) (λ told. split t $ move t (1 ∷ []) $ fsplit t $ feq_l t (λ e. flt_l t (λ fits. split3 t $
      use2 𝓛 (‵ (flft κ q)) (𝓛.lfts.lft_join κ q) $ move t (1 ∷ []) $ drop t $ k m (ap only e) fits told)))))

abbrev pub width_of : (k : ℕ) → IsAlignment k → Width
width_of k (inl _) = w8
width_of k (inr (inl _)) = w16
width_of k (inr (inr (inl _))) = w32
width_of k (inr (inr (inr (inl _)))) = w64
width_of k (inr (inr (inr (inr _)))) = w128

pub is_width : (k : ℕ) (is : IsAlignment k) → bytes (width_of k is) ≡ k
is_width k (inl e) = sym e
is_width k (inr (inl e)) = sym e
is_width k (inr (inr (inl e))) = sym e
is_width k (inr (inr (inr (inl e)))) = sym e
is_width k (inr (inr (inr (inr e)))) = sym e

width_aligns : (w : Width) (a : ℕ) → bytes w ≡ a → IsAlignment a
width_aligns w8 a e = inl (sym e)
width_aligns w16 a e = inr (inl (sym e))
width_aligns w32 a e = inr (inr (inl (sym e)))
width_aligns w64 a e = inr (inr (inr (inl (sym e))))
width_aligns w128 a e = inr (inr (inr (inr (sym e))))

capped_width : (w : Width) → capped (bytes w) ≡ bytes w
capped_width w8 = refl
capped_width w16 = refl
capped_width w32 = refl
capped_width w64 = refl
capped_width w128 = refl

pub is_alignment : (τ : Ty) (a : ℕ) → capped (align τ) ≡ a → IsAlignment a
is_alignment τ a e = width_aligns (align_w τ) a (sym (capped_width (align_w τ)) ∙ (ap capped (sym (align-bytes τ)) ∙ e))

abbrev pub wider : (m k : ℕ) → IsAlignment k → Ty
wider m k is = ty_array (ty_int (width_of k is)) (m / k)

positive : (k : ℕ) → IsAlignment k → 0 < k
positive k (inl e) = omega (arith, e)
positive k (inr (inl e)) = omega (arith, e)
positive k (inr (inr (inl e))) = omega (arith, e)
positive k (inr (inr (inr (inl e)))) = omega (arith, e)
positive k (inr (inr (inr (inr e)))) = omega (arith, e)

pub multiple : (k m : ℕ) → IsAlignment k → m % k ≡ 0 → m / k * k ≡ m
multiple k m (inl e) = subst (λ (j : ℕ). m % j ≡ 0 → m / j * j ≡ m) (sym e) (λ even. omega (arith, even))
multiple k m (inr (inl e)) = subst (λ (j : ℕ). m % j ≡ 0 → m / j * j ≡ m) (sym e) (λ even. omega (arith, even))
multiple k m (inr (inr (inl e))) = subst (λ (j : ℕ). m % j ≡ 0 → m / j * j ≡ m) (sym e) (λ even. omega (arith, even))
multiple k m (inr (inr (inr (inl e)))) = subst (λ (j : ℕ). m % j ≡ 0 → m / j * j ≡ m) (sym e) (λ even. omega (arith, even))
multiple k m (inr (inr (inr (inr e)))) = subst (λ (j : ℕ). m % j ≡ 0 → m / j * j ≡ m) (sym e) (λ even. omega (arith, even))

pub few : (m : ℕ) → m ≤ 2 ^ 64 - 1 - m → m < 2 ^ 63
few m le = omega (arith, le)

pub unsaturated : (x m : ℕ) → m ≡ min x (2 ^ 64 - 1) → m < 2 ^ 63 → m ≡ x
unsaturated x m e small = omega (arith, e, small)

-- a requested size is a whole number of units
pub in_units : (N k m : ℕ) (is : IsAlignment k) → m ≡ padded N k → m < 2 ^ 63 → m / k * k ≡ m
in_units N k m is e small =
    let exactly : m ≡ up k N = unsaturated (up k N) m e small in
    multiple k m is (ap (λ (j : ℕ). j % k) exactly ∙ dv→ k (up k N) (dv_up k N (positive k is)))

pub is_wider : (m k : ℕ) (is : IsAlignment k) → m / k * k ≡ m → m < 2 ^ 63 → HasLayout (wider m k is) m k
is_wider m k is units small =
    let same : m / k * bytes (width_of k is) ≡ m = ap (λ (j : ℕ). m / k * j) (is_width k is) ∙ units in
    (ap capped same ∙ capped_is m (omega (arith, small)), capped_width (width_of k is) ∙ is_width k is)

abbrev pub Ratio : ℕ → ℕ → Type 0
Ratio a k = (c : ℕ) × (k ≡ c * a) × Dv a k

pub ratio : (w w' : Width) → bytes w ≤ bytes w' → Ratio (bytes w) (bytes w')
ratio w8 w8 le = (1, refl, tt)
ratio w8 w16 le = (2, refl, tt)
ratio w8 w32 le = (4, refl, tt)
ratio w8 w64 le = (8, refl, tt)
ratio w8 w128 le = (16, refl, tt)
ratio w16 w8 le = absurd (omega (arith, le))
ratio w16 w16 le = (1, refl, tt)
ratio w16 w32 le = (2, refl, tt)
ratio w16 w64 le = (4, refl, tt)
ratio w16 w128 le = (8, refl, tt)
ratio w32 w8 le = absurd (omega (arith, le))
ratio w32 w16 le = absurd (omega (arith, le))
ratio w32 w32 le = (1, refl, tt)
ratio w32 w64 le = (2, refl, tt)
ratio w32 w128 le = (4, refl, tt)
ratio w64 w8 le = absurd (omega (arith, le))
ratio w64 w16 le = absurd (omega (arith, le))
ratio w64 w32 le = absurd (omega (arith, le))
ratio w64 w64 le = (1, refl, tt)
ratio w64 w128 le = (2, refl, tt)
ratio w128 w8 le = absurd (omega (arith, le))
ratio w128 w16 le = absurd (omega (arith, le))
ratio w128 w32 le = absurd (omega (arith, le))
ratio w128 w64 le = absurd (omega (arith, le))
ratio w128 w128 le = (1, refl, tt)

abbrev Parts : ℕ → ℕ → ℕ → ℕ → Type 0
Parts a s p q = ((s / a + (p - s / a)) * a ≡ q) × (s ≡ s / a * a)

parts : (w : Width) (s p q : ℕ) → s % bytes w ≡ 0 → s ≤ q → p * bytes w ≡ q → Parts (bytes w) s p q
parts w8 s p q even le e = (omega (arith, even, le, e), omega (arith, even))
parts w16 s p q even le e = (omega (arith, even, le, e), omega (arith, even))
parts w32 s p q even le e = (omega (arith, even, le, e), omega (arith, even))
parts w64 s p q even le e = (omega (arith, even, le, e), omega (arith, even))
parts w128 s p q even le e = (omega (arith, even, le, e), omega (arith, even))

module _ {M : Type 1} {𝓤 : Ura M} (𝓛 : Logic 𝓤) where
  open 𝓛 use {H}

  abbrev pub Lends : Ty → Ty → ℕ → ℕ → Type 1
  Lends τ σ b o = ent 𝓤 (H.room σ b o) (sep 𝓤 (H.room τ b o) (wand 𝓤 (H.room τ b o) (H.room σ b o)))

  carve : (w : Width) (τ σ : Ty) (s r b o : ℕ) → (s + r) * bytes w ≡ size σ → Dv (bytes w) (align σ) → size τ ≡ s * bytes w → align τ ≡ bytes w → Lends τ σ b o
  carve w τ σ s r b o all le part al =
      let U : Ty = ty_int w in
      let Us = λ (i : ℕ). H.room (ty_array U i) b o in let Head = H.room τ b o in let All = H.room σ b o in
      qed 𝓛 (raw All ∷ []) ∵
      use1 𝓛 (raw (Us (s + r)) ⊛ raw (wand 𝓤 (Us (s + r)) All)) (𝓛.laws.room_as σ (ty_array U (s + r)) b o all le) $ split ! $
      use1 𝓛 (raw (Us s) ⊛ raw (H.room (ty_array U r) b (past U s o))) (room_cut 𝓛 U s r b o) $ split ! $
      use1 𝓛 (raw Head ⊛ raw (wand 𝓤 Head (Us s))) (𝓛.laws.room_as (ty_array U s) τ b o part (subst (λ (a : ℕ). Dv a (bytes w)) (sym al) (dv_self (bytes w)))) $ split ! $
      frame ! $ assume ! (raw Head) $ use2 𝓛 (raw (Us s)) (apply∗ 𝓤 Head (Us s)) $
      use2 𝓛 (raw (Us (s + r))) (room_glue 𝓛 U s r b o) $ by ! (apply∗ 𝓤 (Us (s + r)) All)

  pub carved : (w w' : Width) (τ : Ty) (j b o : ℕ) → align τ ≡ bytes w → size τ % bytes w ≡ 0 → size τ ≤ j * bytes w' → Ratio (bytes w) (bytes w') → Lends τ (ty_array (ty_int w') j) b o
  carved w w' τ j b o al even le c =
      let p : j * c.0 * bytes w ≡ j * bytes w' = mul_assoc j c.0 (bytes w) ∙ ap (λ (x : ℕ). j * x) (sym c.1) in
      let is = parts w (size τ) (j * c.0) (j * bytes w') even le p in
      carve w τ (ty_array (ty_int w') j) (size τ / bytes w) (j * c.0 - size τ / bytes w) b o is.0 c.2 is.1 al

  pub lends_part : (τ : Ty) (m k : ℕ) (is : IsAlignment k) → m / k * k ≡ m → size τ ≤ m → align τ ≤ k → (b o : ℕ) → Lends τ (wider m k is) b o
  lends_part τ m k is units fits lined b o =
      let w = align_w τ in let w' = width_of k is in let al : align τ ≡ bytes w = align-bytes τ in let ka = is_width k is in
      let all : m / k * bytes w' ≡ m = ap (λ (j : ℕ). m / k * j) ka ∙ units in
      carved w w' τ (m / k) b o al (dv→ (bytes w) (size τ) (subst (λ (a : ℕ). Dv a (size τ)) al (align_size τ)))
      (subst (λ (x : ℕ). size τ ≤ x) (sym all) fits) (ratio w w' (subst (λ (x : ℕ). x ≤ bytes w') al (subst (λ (x : ℕ). align τ ≤ x) (sym ka) lined)))

pub asked : (f g : ℕ → ℕ → ℕ) (τ σ : Ty) (n a m k : ℕ) → HasLayout τ n a → HasLayout σ m k → m ≡ padded (f n a) (g n a) → k ≡ g n a → IsRequestedFor f g τ σ
asked f g τ σ n a m k fits laid sized lined =
    subst (λ (x : ℕ × ℕ). HasLayout σ (padded (f x.0 x.1) (g x.0 x.1)) (g x.0 x.1)) (λ i. (sym fits.0 i, sym fits.1 i)) (laid.0 ∙ sized, laid.1 ∙ lined)

pub found : (f g : ℕ → ℕ → ℕ) (τ σ : Ty) (n a m k : ℕ) → HasLayout τ n a → IsRequestedFor f g τ σ → m ≡ padded (f n a) (g n a) → k ≡ g n a → HasLayout σ m k
found f g τ σ n a m k fits is sized lined =
    let at : HasLayout σ (padded (f n a) (g n a)) (g n a) = subst (λ (x : ℕ × ℕ). HasLayout σ (padded (f x.0 x.1) (g x.0 x.1)) (g x.0 x.1)) (λ i. (fits.0 i, fits.1 i)) is in
    (at.0 ∙ sym sized, at.1 ∙ sym lined)
