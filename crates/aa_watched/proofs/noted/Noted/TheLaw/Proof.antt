-- A `&` to a cell is made of a borrow of it: the borrow itself, for one call at a time. Assumes `Logic`.
use Rattle.aa_watched.proofs.Walk.{[], ◌∷◌, full_share, Fml, fbor, ‵, raw, later, ◌$◌, ◌∵◌, !, qed, use1, await, updating, at_once, done, lfts, bor_na, na_bor, part_at, part_of}
use denote.Hidden.{guarded_shr_laws}
use Rattle.aa_watched.specs.contracts.noted.Noted as noted
use Rattle.aa_watched.proofs.noted.Noted.TheLaw.Statement.{statement}

pub shares : statement
unfolding part_of
shares = record {
  shr_laws = λ c b o. guarded_shr_laws (b, o) (part_at noted.the_written full_share c b o);
  shares = λ M 𝓤 𝓛 c κ tokens b o within alive.
      let P : Fml = part_at noted.the_written full_share c b o in
      qed 𝓛 (‵ (fbor κ P) ∷ raw (lfts 𝓛 tokens) ∷ []) ∵
      updating ! $ use1 𝓛 (later (‵ (na_bor κ (b, o) P))) (bor_na 𝓛 κ (b, o) P) $ await ! tt $ at_once ! $ done !;
}
