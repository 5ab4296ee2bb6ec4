-- A drain that is consumed, and a range from which elements were taken: the fields, and what a call
-- requires that takes them.
use Rattle.aa_vec.proofs.Common.{Declared, Ghosts, Is, Lfts, Logic, Makes, RattleType, Ura, emp, ent, fact, id⊢, mono∗, named_lft, param, row, sep, ◌⊑◌}
use denote.Struct.Laws as laws
use Rattle.aa_vec.specs.contracts.vec.Vec as V
use Rattle.aa_vec.specs.contracts.vec.drain.Drain as D
use Rattle.aa_vec.specs.contracts.vec.extract_if.ExtractBy as E
use Rattle.aa_vec.specs.contracts.vec.tail.moves.Gap as Gp
pub use Rattle.aa_vec.specs.declared.vec.tail.moves.Gap.{Gap}
use Rattle.aa_vec.proofs.GivenUp.{two}
pub use Rattle.aa_vec.proofs.GivenUp.{words, only_said, goes, opened}

module _ (T A : RattleType) (g : Ghosts A.Denot) where
  abbrev pub Decl : Lfts 3 → Declared
  Decl κs = D.the_type (named_lft 3 0 tt κs) (param 0 T) (param 1 A) g

  abbrev pub DeclBy : Lfts 3 → Declared
  DeclBy κs = E.the_type (named_lft 3 0 tt κs) (param 0 T) (param 1 A) g

  abbrev pub Lws : (κs : Lfts 3) → laws.Laws (Decl κs)
  Lws κs = (
    laws.mut_ref_laws (named_lft 3 0 tt κs) (V.the_row (param 0 T) (param 1 A) g) tt,
    (laws.usize-laws, (laws.usize-laws, (laws.usize-laws, (laws.usize-laws, tt)))),
  )

  abbrev pub LwsBy : (κs : Lfts 3) → laws.Laws (DeclBy κs)
  LwsBy κs = (
    laws.mut_ref_laws (named_lft 3 0 tt κs) (V.the_row (param 0 T) (param 1 A) g) tt,
    (laws.usize-laws, (laws.usize-laws, (laws.usize-laws, (laws.usize-laws, tt)))),
  )

-- a gap, which owns nothing but its numbers
abbrev pub GapDecl : Declared
GapDecl = Gp.the_type

abbrev pub GapLws : laws.Laws GapDecl
GapLws = (laws.usize-laws, (laws.usize-laws, (laws.usize-laws, (laws.usize-laws, tt))))

pub gap_makes : {M : Type 1} {𝓤 : Ura M} (𝓛 : Logic 𝓤) → Makes 𝓛 (row GapDecl) (Is (row GapDecl))
gap_makes 𝓛 = laws.makes GapDecl
    (laws.usize-plain, (laws.usize-plain, (laws.usize-plain, (laws.usize-plain, tt)))) 𝓛

-- the bounds on the two type parameters, and two facts more
pub asks : {M : Type 1} (𝓤 : Ura M) (T A : RattleType) (κs : Lfts 3) {φ ψ : Type 0} → φ → ψ
    → ent 𝓤 (sep 𝓤 (fact 𝓤 (κs.1.0 ⊑ T.lives)) (sep 𝓤 (fact 𝓤 (κs.1.1.0 ⊑ A.lives)) (emp 𝓤)))
    (sep 𝓤 (fact 𝓤 (κs.1.0 ⊑ T.lives))
    (sep 𝓤 (fact 𝓤 (κs.1.1.0 ⊑ A.lives)) (sep 𝓤 (fact 𝓤 φ) (fact 𝓤 ψ))))
asks 𝓤 T A κs x y =
    mono∗ 𝓤 (id⊢ 𝓤 (fact 𝓤 (κs.1.0 ⊑ T.lives)))
    (mono∗ 𝓤 (id⊢ 𝓤 (fact 𝓤 (κs.1.1.0 ⊑ A.lives))) (two 𝓤 x y))
