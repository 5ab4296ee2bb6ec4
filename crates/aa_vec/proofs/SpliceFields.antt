-- A splice that is consumed: its fields, of which the iterator has no machine value of its own, and
-- what a call requires that takes them.
use Rattle.aa_vec.proofs.Common.{Ty, WT, WTs, flat, has_ty, has_tys, layout, mirs, named, of_list, vint, vstruct, w64, ◌∙◌}
use Rattle.aa_vec.proofs.Walks.{◌≡◌, refl, sym, ap, subst, List, [], ◌∷◌, Val, sep, id⊢, ‵, ◌∵◌, !, qed, fsplit, feq_l, fact, unit, owns, fields}
pub use Rattle.aa_vec.proofs.Common.{Vector, Ura, ent, emp, emp∗, via, mono∗, Logic, sem, ◌$◌, by, fpick, ◌⊑◌, Lfts, fact_use, fact_i, Are, Ises, owns_show, showss, param, RattleType, Valss, named_lft, Declared, row, Ghosts}
use lib.Dec.{T}
pub use base.Logic.{SProp, ex, ex_i}
pub use types.Kit.{regoal, prop}
pub use prog.Wp.{WpFn}
pub use denote.Exit.{at}
pub use denote.Laws.{Is, Typed, shows}
pub use denote.Steps.{peeks}
pub use denote.Triple.Clauses.{at_exit}
pub use Rattle.std.proofs.raw_atomic.Walks.{proved_at}
pub use Rattle.std.specs.Iterator.{IsFinite}
pub use Rattle.aa_vec.proofs.GivenUp.{only_said, goes}
use denote.Param.Laws as param_law
use denote.Param.Shared as shared
use denote.Plain.{uint_Tells}
use denote.Ref.{mut_vals, mut_Tells}
use denote.Struct.Field.{unit-field}
use denote.Struct.Laws as laws
use denote.Struct.Struct.{as_fields, to_tys}
use Rattle.std.specs.declared.iter.Iterator as It
use Rattle.std.specs.contracts.result.Result as Rs
use Rattle.std.proofs.result.Result.TheLaws as Rs-laws
use Rattle.aa_raw.specs.contracts.collections.TryReserveError as Tr
use Rattle.aa_raw.proofs.collections.TryReserveError.TheLaws as Tr-laws
use Rattle.aa_vec.specs.declared.vec.splice.Splice.{Splice}
use Rattle.aa_vec.specs.contracts.vec.Vec as V
use Rattle.aa_vec.specs.contracts.vec.splice.Splice as S

-- the machine value of a type parameter
alone : (τ : Ty) (vs : List Val) → Typed (τ ∷ []) vs → (v : Val)
    × ((vs ≡ v ∷ []) × (T (has_ty τ v) × WT v))
alone τ [] t = absurd t
alone τ (v ∷ []) t = (v, (refl, t.0))
alone τ (v ∷ w ∷ vs) t = absurd t.1

abbrev pub Answer : RattleType
Answer = Rs.the_row unit Tr.the_row

abbrev pub answer_laws : param_law.Laws Answer
answer_laws = Rs-laws.the_row_laws unit Tr.the_row
    (param_law.of_field unit-field laws.unit-laws refl
    (shared.copy_shared unit-field laws.unit-copy)) Tr-laws.the_row_laws

module _ (I A X : RattleType) (gI : It.Ghosts I.Denot X.Denot) (gA : Ghosts A.Denot) where
  abbrev pub Decl : Lfts 5 → Declared
  Decl κs = S.the_type (named_lft 5 0 tt κs) (param 0 I) (param 1 A) (param 2 X) gI gA

  abbrev pub Row : Lfts 5 → RattleType
  Row κs = row (Decl κs)

  abbrev D : Type 0
  D = Splice I.Denot A.Denot X.Denot gI

  -- the machine values of the fields, where that of the iterator is v
  abbrev pub words : (κs : Lfts 5) → D → Val → Valss (fields (Decl κs))
  words κs d v = (
    mut_vals d.vec,
    (
      vint w64 d.front
          ∷ [],
      (vint w64 d.back ∷ [], (vint w64 d.end ∷ [], (vint w64 d.total ∷ [], (v ∷ [], tt)))),
    ),
  )

  abbrev pub word : (κs : Lfts 5) → D → Val → Val
  word κs d v = vstruct (of_list (flat (fields (Decl κs)) (words κs d v)))

  abbrev pub Fits : (κs : Lfts 5) → D → Val → Type 0
  Fits κs d v = (T (has_ty (layout I) v) × WT v)
      × (T (has_tys (to_tys (mirs (fields (Decl κs))))
      (of_list (flat (fields (Decl κs)) (words κs d v))))
      × WTs (of_list (flat (fields (Decl κs)) (words κs d v))))

  module _ {M : Type 1} {𝓤 : Ura M} (𝓛 : Logic 𝓤) (LI : param_law.Laws I) where
    known : (κs : Lfts 5) (d : D) (vss : Valss (fields (Decl κs)))
        → Are (fields (Decl κs)) (Ises (fields (Decl κs))) ((Decl κs).to d) vss → (v : Val)
        × ((vss ≡ words κs d v) × Fits κs d v)
    known κs d vss are =
        let Rs = fields (Decl κs) in
        let one = alone (layout I) vss.1.1.1.1.1.0
        (((param_law.param_laws 0 I LI).lawful 𝓛).typed d.iter vss.1.1.1.1.1.0 are.1.1.1.1.1.0)
        in
        let vec = mut_Tells (named 0) κs.0 (V.the_row (param 2 X) (param 1 A) gA) d.vec vss.0 are.0
        in
        let front = uint_Tells w64 d.front vss.1.0 are.1.0 in
        let back = uint_Tells w64 d.back vss.1.1.0 are.1.1.0 in
        let end = uint_Tells w64 d.end vss.1.1.1.0 are.1.1.1.0 in
        let total = uint_Tells w64 d.total vss.1.1.1.1.0 are.1.1.1.1.0 in
        let same : vss ≡ words κs d one.0 = λ i.
        (vec i, (front i, (back i, (end i, (total i, (one.1.0 i, tt)))))) in
        let numbers = as_fields (mirs Rs) (flat Rs (words κs d one.0)) (
          (tt, tt),
          (
            (tt, record { fits = are.1.0.1 }),
            (
              (tt, record { fits = are.1.1.0.1 }),
              (
                (tt, record { fits = are.1.1.1.0.1 }),
                ((tt, record { fits = are.1.1.1.1.0.1 }), (one.1.1, tt)),
              ),
            ),
          ),
        ) in
        (one.0, (same, (one.1.1, numbers)))

    -- a splice owns what its fields own
    pub opened : (κs : Lfts 5) (d : D) (us : List Val) → ent 𝓤 (sem 𝓛 ((Row κs).own_val d us))
        (ex 𝓤 (λ (v : Val). sep 𝓤 (fact 𝓤 ((us ≡ word κs d v ∷ []) × Fits κs d v))
        (sem 𝓛 (owns (fields (Decl κs)) ((Decl κs).to d) (words κs d v)))))
    opened κs d us =
        let Rs = fields (Decl κs) in let a = (Decl κs).to d in
        let Φ : Val → SProp 𝓤 = λ v. sep 𝓤 (fact 𝓤 ((us ≡ word κs d v ∷ []) × Fits κs d v))
        (sem 𝓛 (owns Rs a (words κs d v))) in
        qed 𝓛 (‵ ((Row κs).own_val d us) ∷ []) ∵ fpick ! (λ vss. fsplit ! $ feq_l ! (λ e.
        by ! (fact_use 𝓤 (Are Rs (Ises Rs) a vss) (owns_show 𝓛 Rs (Ises Rs) (showss 𝓛 Rs) a vss)
        (λ are.
        let w = known κs d vss are in let P : SProp 𝓤 = sem 𝓛 (owns Rs a (words κs d w.0)) in
        subst (λ ws. ent 𝓤 (sem 𝓛 (owns Rs a ws)) (ex 𝓤 Φ)) (sym w.1.0)
        (via 𝓤 (Φ w.0) (via 𝓤 (sep 𝓤 (emp 𝓤) P) (emp∗ 𝓤 P)
        (mono∗ 𝓤 (fact_i 𝓤 _ (emp 𝓤)
        (e ∙ ap (λ (ws : Valss Rs). vstruct (of_list (flat Rs ws)) ∷ []) w.1.0, w.1.1))
        (id⊢ 𝓤 P))) (ex_i 𝓤 Φ w.0))))))

-- a fact beside what is there
with_fact : {M : Type 1} (𝓤 : Ura M) {P Q : SProp 𝓤} {φ : Type 0} → φ → ent 𝓤 P Q
    → ent 𝓤 P (sep 𝓤 (fact 𝓤 φ) Q)
with_fact 𝓤 {P = P} x rest =
    via 𝓤 (sep 𝓤 (emp 𝓤) P) (emp∗ 𝓤 P) (mono∗ 𝓤 (fact_i 𝓤 _ (emp 𝓤) x) rest)

-- the bounds on the four type parameters and what else the caller required, and two facts before
-- that
pub asks : {M : Type 1} (𝓤 : Ura M) (I A X W : RattleType) (κs : Lfts 5)
    (Can : SProp 𝓤) {φ ψ : Type 0} → φ → ψ
    → ent 𝓤 (sep 𝓤 (fact 𝓤 (κs.1.0 ⊑ I.lives))
    (sep 𝓤 (fact 𝓤 (κs.1.1.0 ⊑ A.lives))
    (sep 𝓤 (fact 𝓤 (κs.1.1.1.0 ⊑ X.lives)) (sep 𝓤 (fact 𝓤 (κs.1.1.1.1.0 ⊑ W.lives)) Can))))
    (sep 𝓤 (fact 𝓤 (κs.1.0 ⊑ I.lives))
    (sep 𝓤 (fact 𝓤 (κs.1.1.0 ⊑ A.lives))
    (sep 𝓤 (fact 𝓤 (κs.1.1.1.0 ⊑ X.lives))
    (sep 𝓤 (fact 𝓤 (κs.1.1.1.1.0 ⊑ W.lives)) (sep 𝓤 (fact 𝓤 φ) (sep 𝓤 (fact 𝓤 ψ) Can))))))
asks 𝓤 I A X W κs Can x y =
    mono∗ 𝓤 (id⊢ 𝓤 (fact 𝓤 (κs.1.0 ⊑ I.lives)))
    (mono∗ 𝓤 (id⊢ 𝓤 (fact 𝓤 (κs.1.1.0 ⊑ A.lives)))
    (mono∗ 𝓤 (id⊢ 𝓤 (fact 𝓤 (κs.1.1.1.0 ⊑ X.lives)))
    (mono∗ 𝓤 (id⊢ 𝓤 (fact 𝓤 (κs.1.1.1.1.0 ⊑ W.lives)))
    (with_fact 𝓤 x (with_fact 𝓤 y (id⊢ 𝓤 Can))))))
