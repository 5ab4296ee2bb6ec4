-- What the walks over a pool's shelf have in common. Assumes `Logic`.
--     generics      the type arguments of a shelf's functions, and of a pool's
--     shelf_val, shelf_own      the machine value of a shelf's fields, and what they own by themselves.        shelf_fields, shelf_made     the fields of such a value, and how it is made
--     opens_shelf, shuts_shelf      a shelf is reached through a `&` with the thread's token, and left again
--     holding_token, proved_alone       a contract beside that token, and a walk that has it
--     exact, align_exact      a size or an alignment is what it is at a machine's word
--     fills       what the tests of a size and an alignment show
--     left_block        what runs after a block of code
--     carves      the room of a block has room for a pointer in it
--     regrants, readies      so a free block can be allocated again, and a freed one can be kept
pub use Rattle.aa_watched.proofs.Walk.{◌≡◌, ℕ, ◌+◌, ◌<◌, ◌^◌, Bool, List, [], ◌∷◌, refl, ap, w64, true, false, Ok, Err, T, arith, lit<, subst, suc, sym, ◌*◌, ◌++◌, ◌-◌, ◌/◌, ◌∙◌, block_if_ok, owned_block, full_share, usize, Ghosts, Answer, answer_val, Answer-typed, Answer-Ok, Answer-err, after, head, inside, is_not, is_so, leaves, proved_at, Ura, inst_fn, Args, Dict, a_type, dnil, dcons, Fn, Body, Ty, ty_array, ty_ptr, Callee, ty_int, ty_struct, tcons, tnil, Val, vint, vptr, vbool, WT, has_ty, vstruct, vcons, vnil, of_list, Fml, Lft, Share, ftrue, fsep, flft, fat, fex, froom, ftok, fwand, Incl-refl, SProp, ent, emp, sep, fst∗, never, apply∗, wand, via, snd∗, every, less, ◌⊑◌, fact, fact_i, fact_use, tables, Running, Carries, bare_tables, Dv, dv_self, capped_is, capped_small, size, align, capped, over, ◌≼⁺◌, Env, Wp, after_seq, WpFn, Calls, Loops, Tables, after_block, alloc_all, pass_all, free_all, look_at, get, through, sets, sets_last, env, ‵, raw, ◌⊛◌, some, later, ◌$◌, ◌∵◌, !, qed, move, keep, drop, use0, use1, use2, split, split3, join, fsplit, fjoin, feq_i, await, done, prop, at_ret, any_q, Sq, Post, regoal, by, fjoin3, fpack, fpick, fsplit3, rewrite, post, Item, Goal, Seq, Step, Soaks, step, use3, frame, assume, Logic, sem, na_acc_in, agg, whole, look_in, store_in, sub, stop, fld, addr, lit, no_more, and_then, of_opd, first, branches, skips, exec, returns, returns_within, enter, assigns, bin, blocks, false_lit, load, true_lit, neg_lit, init, look, Ises, Are, owns_show, showss, Typed, hidden_shr, cell_at, unhide, bounded, param, RattleType, owns, RawPtr, Ptr, block_ptr, null_ptr, ptr_val, in_a_block, rawptr_Lawful, types_at, nothing, heard, Ended, Clauses, closing, on_entry, alive, triple_of, Meets, entered, Stays, walk_of, AllGo, walk_Meets, dropped, gone, trues, spent}
use prog.Align.{align_w, align-bytes, →dv}
use mir.Syntax.{Width, w8, w16, w32, w128}
use mir.Val.{bytes}
use denote.RawPtr.Room.{room_cut, room_glue, past}
use denote.Shadow.{shadow, makes_shadow, pure_l}
use denote.Struct.Struct.{Struct}
pub use Rattle.aa_watched.proofs.Alone.{holding_token, proved_alone}
pub use Rattle.aa_allocators.specs.Shelves.{HasSizeAndAlign, IsKept, block_unless, free_block, holds_at, kept_blocks, right_to, stack}
use Rattle.aa_allocators.specs.contracts.shelf.Shelf as shelf
use Rattle.aa_allocators.specs.contracts.shelf.Shelf.TheInside as within

abbrev pub generics : RattleType → Dict → Dict → Args
generics B d drops = bounded (a_type ∷ []) (B, tt) (dcons d (dcons drops dnil))

abbrev pub shelf_type : Ty
shelf_type = ty_struct [] (tcons ty_ptr (tcons (ty_int w64) (tcons (ty_int w64) (tcons (ty_int w64) (tcons (ty_int w64) (tcons (ty_struct [] tnil) tnil))))))

abbrev pub shelf_val : Ptr → ℕ → ℕ → ℕ → ℕ → Val
shelf_val p n k m a = vstruct (vcons (ptr_val p) (vcons (vint w64 n) (vcons (vint w64 k) (vcons (vint w64 m) (vcons (vint w64 a) (vcons (vstruct vnil) vnil))))))

abbrev only_fields : List RattleType → RattleType
only_fields Rs = Struct (record { name = []; args = []; types = []; fields = Rs })

abbrev pub shelf_own : Ptr → ℕ → ℕ → ℕ → ℕ → List Val → Fml
shelf_own p n k m a = (only_fields (RawPtr ∷ usize ∷ usize ∷ usize ∷ usize ∷ only_fields [] ∷ [])).own_val (p, (n, (k, (m, (a, (tt, tt))))))

-- the numbers fit their words
abbrev pub Fit : ℕ → ℕ → ℕ → ℕ → Type 0
Fit n k m a = (n < 2 ^ 64) × (k < 2 ^ 64) × (m < 2 ^ 64) × (a < 2 ^ 64)

pub shelf_fields : (p : Ptr) (n k m a : ℕ) (vs : List Val) → shadow (shelf_own p n k m a vs) → (vs ≡ shelf_val p n k m a ∷ []) × Fit n k m a
shelf_fields p n k m a vs s = (
  s.1.0 ∙ (λ i. vstruct (of_list (s.1.1.0 i ++ (s.1.1.1.0.0 i ++ (s.1.1.1.1.0.0 i ++ (s.1.1.1.1.1.0.0 i ++ (s.1.1.1.1.1.1.0.0 i ++ (s.1.1.1.1.1.1.1.0.1.0 i ++ []))))))) ∷ []),
  (s.1.1.1.0.1, s.1.1.1.1.0.1, s.1.1.1.1.1.0.1, s.1.1.1.1.1.1.0.1),
)

pub shelf_made : {M : Type 1} {𝓤 : Ura M} (𝓛 : Logic 𝓤) (p : Ptr) (n k m a : ℕ) → Fit n k m a → ent 𝓤 (emp 𝓤) (sem 𝓛 (shelf_own p n k m a (shelf_val p n k m a ∷ [])))
shelf_made 𝓛 p n k m a fit =
    makes_shadow 𝓛 (shelf_own p n k m a (shelf_val p n k m a ∷ [])) (λ _. (tt, (tt, ((tt, tt), ((tt, tt), ((tt, tt), ((tt, tt), ((λ _. (tt, tt)), tt)))))))) (
      (ptr_val p ∷ [], (vint w64 n ∷ [], (vint w64 k ∷ [], (vint w64 m ∷ [], (vint w64 a ∷ [], (vstruct vnil ∷ [], tt)))))),
      (refl, (refl, ((refl, fit.0), ((refl, fit.1), ((refl, fit.2), ((refl, fit.3), ((tt, (refl, tt)), tt))))))),
    )

module _ (B : RattleType) (g : Ghosts B.Denot) (c : (shelf.the_row B g).Denot) (b o : ℕ) where
  abbrev F : RattleType
  F = within.the_row B g

  abbrev pub stacked : Ptr → ℕ → ℕ → ℕ → Fml
  stacked p n m a = kept_blocks (g.dealloc_token c) m a n p

  abbrev pub fields : Ptr → ℕ → ℕ → ℕ → ℕ → Fml
  fields p n k m a = fat full_share shelf_type b o (shelf_val p n k m a)

  abbrev I : F.Denot → Fml
  I i = stacked i.top i.count i.size i.align

  abbrev P : Fml
  P = holds_at F I b o

  abbrev pub Shut : {M : Type 1} {𝓤 : Ura M} (𝓛 : Logic 𝓤) → Lft → Share → Item 𝓤
  Shut {𝓤 = 𝓤} 𝓛 κ q =
      ‵ (ftok (less every (b, o))) ⊛ raw (wand 𝓤 (sep 𝓤 (sem 𝓛 P) (𝓛.A.tok (less every (b, o)))) (𝓛.H.⇛ (sep 𝓤 (𝓛.A.lft κ q) (𝓛.A.tok every))))

  module _ {M : Type 1} {𝓤 : Ura M} {𝓛 : Logic 𝓤} {K : Type 0} {Γ : List (Item 𝓤)} {G : Goal 𝓤 𝓛.H} where
    open 𝓛 use {H, A}

    pub opens_shelf : K → Soaks G → {κ : Lft} {q : Share}
        → ((p : Ptr) (n k m a : ℕ) → Fit n k m a → Seq K 𝓛 (‵ (fields p n k m a) ∷ ‵ (stacked p n m a) ∷ Shut 𝓛 κ q ∷ Γ) G)
        → Seq K 𝓛 (‵ (hidden_shr (shelf.the_row B g) κ c b o) ∷ ‵ (flft κ q) ∷ ‵ (ftok every) ∷ Γ) G
    opens_shelf t z {κ} {q} next =
        unhide t $ use3 𝓛 (later (‵ P ⊛ Shut 𝓛 κ q)) (na_acc_in 𝓛 κ ((κ, q) ∷ []) every (b, o) P (Incl-refl κ) refl) $ await t z $ split t $
        fpick t (λ vs. fsplit t $ move t (1 ∷ []) $ fpick t (λ i. fsplit t $ pure_l t (shelf_own i.top i.count i.most i.size i.align vs) (λ s.
        let told = shelf_fields i.top i.count i.most i.size i.align vs s in
        rewrite t 1 (λ (us : List Val). ‵ (cell_at full_share F.mir us b o)) told.0 refl $ move t (1 ∷ []) $ next i.top i.count i.most i.size i.align told.1)))

    pub shuts_shelf : K → Soaks G → {κ : Lft} {q : Share} (p : Ptr) (n k m a : ℕ) → Fit n k m a
        → Step K 𝓛 (‵ (flft κ q) ∷ ‵ (ftok every) ∷ Γ) G (‵ (fields p n k m a) ∷ ‵ (stacked p n m a) ∷ Shut 𝓛 κ q ∷ Γ) G
    shuts_shelf t z {κ} {q} p n k m a fit = step (λ s.
        let vs : List Val = shelf_val p n k m a ∷ [] in
        let i : F.Denot = record { top = p; count = n; most = k; size = m; align = a; marker = record {} } in
        use0 𝓛 (‵ (F.own_val i vs)) (shelf_made 𝓛 p n k m a fit) $ move t (0 ∷ 2 ∷ []) $ fjoin t $ fpack t F.Denot (λ j. fsep (F.own_val j vs) (I j)) i $
        move t (1 ∷ 0 ∷ []) $ fjoin t $ fpack t (List Val) (λ us. fsep (cell_at full_share F.mir us b o) (fex F.Denot (λ j. fsep (F.own_val j us) (I j)))) vs $
        move t (1 ∷ []) $ split t $ move t (2 ∷ 0 ∷ []) $ join t $
        use2 𝓛 (later (‵ (flft κ q) ⊛ ‵ (ftok every))) (apply∗ 𝓤 (sep 𝓤 (sem 𝓛 P) (A.tok (less every (b, o)))) (H.⇛ (sep 𝓤 (A.lft κ q) (A.tok every)))) $
        await t z $ split t $ s)

pub exact : (k n : ℕ) → capped k ≡ n → n < 2 ^ 63 → k ≡ n
exact k n e small = let short = capped_small k (subst (λ (j : ℕ). j < 2 ^ 63) (sym e) small) in sym (capped_is k (omega (arith, short))) ∙ e

bytes_fit : (w : Width) → bytes w < 2 ^ 64
bytes_fit w8 = lit< tt
bytes_fit w16 = lit< tt
bytes_fit w32 = lit< tt
bytes_fit w64 = lit< tt
bytes_fit w128 = lit< tt

-- an alignment always fits in a word
pub align_exact : (τ : Ty) (a : ℕ) → capped (align τ) ≡ a → align τ ≡ a
align_exact τ a e = sym (capped_is (align τ) (subst (λ (j : ℕ). j < 2 ^ 64) (sym (align-bytes τ)) (bytes_fit (align_w τ)))) ∙ e

pub fills : (τ : Ty) (m b n a : ℕ) → IsKept m b → m ≡ n → b ≡ a → (capped (size τ) ≡ n) × (capped (align τ) ≡ a) → HasSizeAndAlign τ m b
fills τ m b n a kept same alike is = (exact (size τ) m (is.0 ∙ sym same) kept.2, align_exact τ b (is.1 ∙ sym alike))

module _ {M : Type 1} {𝓤 : Ura M} (𝓛 : Logic 𝓤) where
  open 𝓛 use {H}

  -- what runs once a block of code is left that is followed by the code b
  abbrev pub left_block : Calls 𝓤 H → Loops 𝓤 H → Env 𝓤 H → Body → Post 𝓤 H → Post 𝓤 H
  left_block C Λ E b q = any_q (after_block 𝓤 H (post 𝓤 H (any_q (after_seq 𝓤 H (Wp 𝓤 H C Λ E b (post 𝓤 H q)) (post 𝓤 H q)))))

  pub carves : (b o : ℕ) (σ : Ty) (n a : ℕ) → HasSizeAndAlign σ n a → IsKept n a
      → ent 𝓤 (H.room σ b o) (sep 𝓤 (H.room ty_ptr b o) (wand 𝓤 (H.room ty_ptr b o) (H.room σ b o)))
  carves b o σ n a fills kept =
      let k = n / 8 - 1 in let big = kept.0 in let even = kept.1 in let filled = fills.0 in let whole : (1 + k) * 8 ≡ size σ = omega arith in
      let Words = λ (j : ℕ). H.room (ty_array ty_ptr j) b o in let Head = H.room ty_ptr b o in let Whole = H.room σ b o in
      qed 𝓛 (raw Whole ∷ []) ∵
      use1 𝓛 (raw (Words (1 + k)) ⊛ raw (wand 𝓤 (Words (1 + k)) Whole))
      (𝓛.laws.room_as σ (ty_array ty_ptr (1 + k)) b o whole (subst (λ (j : ℕ). Dv 8 j) (sym fills.1) (→dv 8 a kept.3))) $ split ! $
      use1 𝓛 (raw (Words 1) ⊛ raw (H.room (ty_array ty_ptr k) b (past ty_ptr 1 o))) (room_cut 𝓛 ty_ptr 1 k b o) $ split ! $
      use1 𝓛 (raw Head ⊛ raw (wand 𝓤 Head (Words 1))) (𝓛.laws.room_as (ty_array ty_ptr 1) ty_ptr b o refl tt) $ split ! $
      frame ! $ assume ! (raw Head) $ use2 𝓛 (raw (Words 1)) (apply∗ 𝓤 Head (Words 1)) $
      use2 𝓛 (raw (Words (1 + k))) (room_glue 𝓛 ty_ptr 1 k b o) $ by ! (apply∗ 𝓤 (Words (1 + k)) Whole)

  -- a free block lends its word, and is then allocated for a type of its layout
  pub regrants : (b o : ℕ) (t : Ty → Ptr → Fml) (n a : ℕ) (next : Ptr) (τ : Ty) → HasSizeAndAlign τ n a → ent 𝓤 (sem 𝓛 (free_block t n a (b, o) next))
      (sep 𝓤 (H.at full_share ty_ptr b o (ptr_val next)) (wand 𝓤 (H.at full_share ty_ptr b o (ptr_val next)) (sem 𝓛 (owned_block (right_to t) τ (block_ptr b o)))))
  regrants b o t n a next τ to =
      let p : Ptr = block_ptr b o in let Word = H.at full_share ty_ptr b o (ptr_val next) in
      let Alike : Ty → Type 0 = λ σ. (size σ ≡ size τ) × (align σ ≡ align τ) in
      qed 𝓛 (‵ (free_block t n a (b, o) next) ∷ []) ∵ fpick ! (λ σ. fpick ! (λ from. fsplit3 ! $ frame ! $ assume ! (raw Word) $
      use1 𝓛 (‵ (froom ty_ptr b o)) (𝓛.laws.at_room ty_ptr b o (ptr_val next)) $ use2 𝓛 (‵ (froom σ b o)) (apply∗ 𝓤 (H.room ty_ptr b o) (H.room σ b o)) $
      use1 𝓛 (‵ (froom τ b o) ⊛ ‵ (fwand (froom τ b o) (froom σ b o)))
      (𝓛.laws.room_as σ τ b o (to.0 ∙ sym from.0) (subst (λ (j : ℕ × ℕ). Dv j.0 j.1) (λ i. (sym to.1 i, sym from.1 i)) (dv_self a))) $ split ! $
      move ! (2 ∷ []) $ fpack ! (Alike σ) (λ _. t σ p) (from.0 ∙ sym to.0, from.1 ∙ sym to.1) $
      fpack ! Ty (λ σ'. fex (Alike σ') (λ _. t σ' p)) σ $ move ! (1 ∷ 0 ∷ []) $ fjoin ! $ keep ! (0 ∷ []) $ done !))

  -- a freed block lends room for a word, and is then free to be kept
  pub readies : (b o : ℕ) (t : Ty → Ptr → Fml) (n a : ℕ) (next : Ptr) (τ : Ty) → HasSizeAndAlign τ n a → IsKept n a → ent 𝓤 (sem 𝓛 (owned_block (right_to t) τ (block_ptr b o)))
      (sep 𝓤 (H.room ty_ptr b o) (wand 𝓤 (H.at full_share ty_ptr b o (ptr_val next)) (sem 𝓛 (free_block t n a (b, o) next))))
  readies b o t n a next τ fills kept =
      let p : Ptr = block_ptr b o in let Word : Fml = fat full_share ty_ptr b o (ptr_val next) in let Room : Ty → Fml = λ σ. froom σ b o in
      qed 𝓛 (‵ (owned_block (right_to t) τ p) ∷ []) ∵ fsplit ! $ move ! (1 ∷ []) $ fpick ! (λ σ. fpick ! (λ alike. move ! (1 ∷ []) $
      let filled : HasSizeAndAlign σ n a = (alike.0 ∙ fills.0, alike.1 ∙ fills.1) in
      use1 𝓛 (‵ (Room σ) ⊛ ‵ (fwand (Room σ) (Room τ)))
      (𝓛.laws.room_as τ σ b o alike.0 (subst (λ (j : ℕ × ℕ). Dv j.0 j.1) (λ i. (sym filled.1 i, sym fills.1 i)) (dv_self a))) $ split ! $ move ! (1 ∷ []) $ drop ! $
      use1 𝓛 (‵ (Room ty_ptr) ⊛ ‵ (fwand (Room ty_ptr) (Room σ))) (carves b o σ n a filled kept) $ split ! $ frame ! $ assume ! (‵ Word) $ fjoin3 ! $
      fpack ! (HasSizeAndAlign σ n a) (λ _. fsep Word (fsep (fwand (Room ty_ptr) (Room σ)) (t σ p))) filled $
      fpack ! Ty (λ σ. fex (HasSizeAndAlign σ n a) (λ _. fsep Word (fsep (fwand (Room ty_ptr) (Room σ)) (t σ p)))) σ $ done !))
