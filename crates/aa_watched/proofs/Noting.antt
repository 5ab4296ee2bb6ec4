-- What the walks over a `Noted` have in common. Assumes `Logic`.
--     noted_val, noted_own      the machine value of its fields, and what they own by themselves.        noted_fields, noted_made     the fields of such a value, and how it is made
--     opens_noted, shuts_noted      it is reached through a `&` with the thread's token, and left again
use Rattle.aa_watched.proofs.Walk.{arith, ◌≡◌, ℕ, ◌<◌, ◌^◌, List, [], ◌∷◌, refl, w64, ◌++◌, ◌∙◌, full_share, usize, Ura, Ty, ty_int, ty_struct, tcons, tnil, Val, vint, vstruct, vcons, vnil, of_list, Fml, Lft, Share, fsep, flft, fat, fex, ftok, Incl-refl, ent, emp, sep, apply∗, wand, every, less, ‵, raw, ◌⊛◌, later, ◌$◌, move, use0, use2, use3, drop, split, join, fsplit, fjoin, await, fpack, fpick, rewrite, Item, Goal, Seq, Step, Soaks, step, Logic, sem, na_acc_in, hidden_shr, cell_at, unhide, RattleType}
use denote.Shadow.{shadow, makes_shadow, pure_l}
use denote.Struct.Struct.{Struct}
use Rattle.aa_watched.specs.Cells.{IsWithin, holds_at, noted_within}
use Rattle.aa_watched.specs.contracts.noted.Noted as noted
use Rattle.aa_watched.specs.contracts.noted.Noted.TheInside as within

abbrev pub noted_type : Ty
noted_type = ty_struct [] (tcons (ty_int w64) (tcons (ty_int w64) (tcons (ty_int w64) tnil)))

abbrev pub noted_val : ℕ → ℕ → ℕ → Val
noted_val l a m = vstruct (vcons (vint w64 l) (vcons (vint w64 a) (vcons (vint w64 m) vnil)))

abbrev only_fields : List RattleType → RattleType
only_fields Rs = Struct (record { name = []; args = []; types = []; fields = Rs })

abbrev pub noted_own : ℕ → ℕ → ℕ → List Val → Fml
noted_own l a m = (only_fields (usize ∷ usize ∷ usize ∷ [])).own_val (l, (a, (m, tt)))

-- the numbers fit their words
abbrev pub Fit : ℕ → ℕ → ℕ → Type 0
Fit l a m = (l < 2 ^ 64) × (a < 2 ^ 64) × (m < 2 ^ 64)

pub noted_fields : (l a m : ℕ) (vs : List Val) → shadow (noted_own l a m vs) → (vs ≡ noted_val l a m ∷ []) × Fit l a m
noted_fields l a m vs s = (
  s.1.0 ∙ (λ i. vstruct (of_list (s.1.1.0.0 i ++ (s.1.1.1.0.0 i ++ (s.1.1.1.1.0.0 i ++ [])))) ∷ []),
  (s.1.1.0.1, s.1.1.1.0.1, s.1.1.1.1.0.1),
)

pub noted_made : {M : Type 1} {𝓤 : Ura M} (𝓛 : Logic 𝓤) (l a m : ℕ) → Fit l a m → ent 𝓤 (emp 𝓤) (sem 𝓛 (noted_own l a m (noted_val l a m ∷ [])))
noted_made 𝓛 l a m fit =
    makes_shadow 𝓛 (noted_own l a m (noted_val l a m ∷ [])) (λ _. (tt, ((tt, tt), ((tt, tt), ((tt, tt), tt)))))
    ((vint w64 l ∷ [], (vint w64 a ∷ [], (vint w64 m ∷ [], tt))), (refl, ((refl, fit.0), ((refl, fit.1), ((refl, fit.2), tt)))))

-- with nothing allocated, every limit is kept
pub zero_within : (limit : ℕ) → IsWithin limit 0 0
zero_within limit = (omega arith, omega arith)

-- the facts of a cell, as what is owned
pub within_made : {M : Type 1} {𝓤 : Ura M} (𝓛 : Logic 𝓤) (limit l a m : ℕ) → (l ≡ limit) × IsWithin limit a m → ent 𝓤 (emp 𝓤) (sem 𝓛 (noted_within limit l a m))
within_made 𝓛 limit l a m kept = makes_shadow 𝓛 (noted_within limit l a m) (λ _. tt) (kept, tt)

module _ (limit : ℕ) (b o : ℕ) where
  abbrev F : RattleType
  F = within.the_row

  abbrev pub fields : ℕ → ℕ → ℕ → Fml
  fields l a m = fat full_share noted_type b o (noted_val l a m)

  abbrev I : F.Denot → Fml
  I i = noted_within limit i.limit i.allocated i.most

  abbrev P : Fml
  P = holds_at F I b o

  abbrev pub Shut : {M : Type 1} {𝓤 : Ura M} (𝓛 : Logic 𝓤) → Lft → Share → Item 𝓤
  Shut {𝓤 = 𝓤} 𝓛 κ q =
      ‵ (ftok (less every (b, o))) ⊛ raw (wand 𝓤 (sep 𝓤 (sem 𝓛 P) (𝓛.A.tok (less every (b, o)))) (𝓛.H.⇛ (sep 𝓤 (𝓛.A.lft κ q) (𝓛.A.tok every))))

  module _ {M : Type 1} {𝓤 : Ura M} {𝓛 : Logic 𝓤} {K : Type 0} {Γ : List (Item 𝓤)} {G : Goal 𝓤 𝓛.H} where
    open 𝓛 use {H, A}

    pub opens_noted : K → Soaks G → {κ : Lft} {q : Share}
        → ((l a m : ℕ) → Fit l a m → (l ≡ limit) × IsWithin limit a m → Seq K 𝓛 (‵ (fields l a m) ∷ Shut 𝓛 κ q ∷ Γ) G)
        → Seq K 𝓛 (‵ (hidden_shr noted.the_row κ limit b o) ∷ ‵ (flft κ q) ∷ ‵ (ftok every) ∷ Γ) G
    opens_noted t z {κ} {q} next =
        unhide t $ use3 𝓛 (later (‵ P ⊛ Shut 𝓛 κ q)) (na_acc_in 𝓛 κ ((κ, q) ∷ []) every (b, o) P (Incl-refl κ) refl) $ await t z $ split t $
        fpick t (λ vs. fsplit t $ move t (1 ∷ []) $ fpick t (λ i. fsplit t $ pure_l t (noted_own i.limit i.allocated i.most vs) (λ s.
        let told = noted_fields i.limit i.allocated i.most vs s in
        fpick t (λ kept. drop t $
        rewrite t 0 (λ (us : List Val). ‵ (cell_at full_share F.mir us b o)) told.0 refl $ next i.limit i.allocated i.most told.1 kept))))

    pub shuts_noted : K → Soaks G → {κ : Lft} {q : Share} (l a m : ℕ) → Fit l a m → (l ≡ limit) × IsWithin limit a m
        → Step K 𝓛 (‵ (flft κ q) ∷ ‵ (ftok every) ∷ Γ) G (‵ (fields l a m) ∷ Shut 𝓛 κ q ∷ Γ) G
    shuts_noted t z {κ} {q} l a m fit kept = step (λ s.
        let vs : List Val = noted_val l a m ∷ [] in
        let i : F.Denot = record { limit = l; allocated = a; most = m } in
        use0 𝓛 (‵ (I i)) (within_made 𝓛 limit l a m kept) $ use0 𝓛 (‵ (F.own_val i vs)) (noted_made 𝓛 l a m fit) $ move t (0 ∷ 1 ∷ []) $ fjoin t $
        fpack t F.Denot (λ j. fsep (F.own_val j vs) (I j)) i $
        move t (1 ∷ 0 ∷ []) $ fjoin t $ fpack t (List Val) (λ us. fsep (cell_at full_share F.mir us b o) (fex F.Denot (λ j. fsep (F.own_val j us) (I j)))) vs $
        move t (1 ∷ []) $ split t $ move t (2 ∷ 0 ∷ []) $ join t $
        use2 𝓛 (later (‵ (flft κ q) ⊛ ‵ (ftok every))) (apply∗ 𝓤 (sep 𝓤 (sem 𝓛 P) (A.tok (less every (b, o)))) (H.⇛ (sep 𝓤 (A.lft κ q) (A.tok every)))) $
        await t z $ split t $ s)
