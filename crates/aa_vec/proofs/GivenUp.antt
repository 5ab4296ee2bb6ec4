-- A struct by value that a function takes apart, and whose `&mut` it passes on for good. At the
-- return it owes no struct, and so none of the facts of the struct's ghost fields.
use Rattle.aa_vec.proofs.Walks.{ℕ, subst, List, [], ◌∷◌, Val, ‵, ◌∵◌, !, qed, fsplit, owns, fields}
use Rattle.aa_vec.proofs.Common.{Are, Declared, Ises, Lfts, Logic, RattleType, Ura, Valss, all_tell, by, emp, emp∗, ent, fact, fact_i, fact_use, fpick, id⊢, mono∗, owns_show, plain, row, sem, sep, showss, valss, via, ◌$◌}
use types.Kit.{drop}
use denote.Exit.{Kept, left}
use denote.Struct.Laws as laws
use denote.Triple.Walked.{Stay, Goes}

-- at the return the function has what says the reference's last value, and nothing else
module _ (n : ℕ) (F : Lfts n → RattleType) (k : Kept) where
  abbrev pub only_said : Stay {n = n} (plain F) k
  only_said = record { fit = λ κs d w. Unit {0}; has = λ κs d w vs. left ((F κs).exit k) d w }

  pub goes : {M : Type 1} {𝓤 : Ura M} (𝓛 : Logic 𝓤) → Goes 𝓛 n (plain F) k only_said
  goes 𝓛 κs d w vs ok = 𝓛.laws.⇛_intro _

-- a struct, each of whose fields has a machine value, owns what its fields own
module _ (S : Declared) (L : laws.Laws S) where
  abbrev pub words : S.D → Valss (fields S)
  words d = valss (fields S) (laws.spells S.parts L) (S.to d)

  pub opened : {M : Type 1} {𝓤 : Ura M} (𝓛 : Logic 𝓤) (d : S.D) (us : List Val)
      → ent 𝓤 (sem 𝓛 ((row S).own_val d us)) (sem 𝓛 (owns (fields S) (S.to d) (words d)))
  opened {𝓤 = 𝓤} 𝓛 d us =
      let Rs = fields S in let a = S.to d in
      qed 𝓛 (‵ ((row S).own_val d us) ∷ []) ∵ fpick ! (λ vss. fsplit ! $ drop ! $
      by ! (fact_use 𝓤 (Are Rs (Ises Rs) a vss) (owns_show 𝓛 Rs (Ises Rs) (showss 𝓛 Rs) a vss)
      (λ are.
      subst (λ us. ent 𝓤 (sem 𝓛 (owns Rs a vss)) (sem 𝓛 (owns Rs a us)))
      (all_tell Rs (Ises Rs) (laws.spells S.parts L) (laws.tellss S.parts L) a vss are)
      (id⊢ 𝓤 _))))

-- two facts
pub two : {M : Type 1} (𝓤 : Ura M) {φ ψ : Type 0} → φ → ψ
    → ent 𝓤 (emp 𝓤) (sep 𝓤 (fact 𝓤 φ) (fact 𝓤 ψ))
two 𝓤 x y = via 𝓤 (sep 𝓤 (emp 𝓤) (emp 𝓤)) (emp∗ 𝓤 (emp 𝓤))
    (mono∗ 𝓤 (fact_i 𝓤 _ (emp 𝓤) x) (fact_i 𝓤 _ (emp 𝓤) y))
