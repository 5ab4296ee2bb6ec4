-- A `&` to a shelf is made of a borrow of it: the borrow itself, for one call at a time. Assumes `Logic`.
use Rattle.aa_watched.proofs.Walk.{[], ◌∷◌, full_share, Ghosts, Fml, fbor, ‵, raw, later, ◌$◌, ◌∵◌, !, qed, use1, await, updating, at_once, done, lfts, bor_na, na_bor, part_at, part_of, Laws, RattleType}
use denote.Hidden.{guarded_shr_laws}
use Rattle.aa_allocators.specs.contracts.shelf.Shelf as shelf
use Rattle.aa_allocators.proofs.shelf.Shelf.TheLaw.Statement.{statement}

pub shares : (B : RattleType) (g : Ghosts B.Denot) (L : Laws B) → statement B g L
unfolding part_of
shares B g L = record {
  shr_laws = λ c b o. guarded_shr_laws (b, o) (part_at (shelf.the_written B g) full_share c b o);
  shares = λ M 𝓤 𝓛 c κ tokens b o within alive.
      let P : Fml = part_at (shelf.the_written B g) full_share c b o in
      qed 𝓛 (‵ (fbor κ P) ∷ raw (lfts 𝓛 tokens) ∷ []) ∵
      updating ! $ use1 𝓛 (later (‵ (na_bor κ (b, o) P))) (bor_na 𝓛 κ (b, o) P) $ await ! tt $ at_once ! $ done !;
}
