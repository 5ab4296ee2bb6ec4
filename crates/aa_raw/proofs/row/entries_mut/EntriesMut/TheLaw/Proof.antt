-- A `&` to borrowed entries holds none of them. Assumes `Logic`.
use Rattle.aa_raw.proofs.{Laws, Lends-nothing, MutRef, NamedLft, RattleType, RawPtr-copy, RawPtr-field, Tuple, [], copy_shared, field_copy, nothing_shr_laws, of_Lends, ◌∷◌}
use Rattle.core.specs.contracts.marker.PhantomData as marker
use Rattle.aa_raw.specs.contracts.row.entries_mut.EntriesMut as C

pub shares : (κ : NamedLft) (K V : RattleType) (LK : Laws K) (LV : Laws V)
    → Rattle.aa_raw.proofs.row.entries_mut.EntriesMut.TheLaw.Statement.statement κ K V LK LV
shares κ K V LK LV =
    let P : RattleType = MutRef κ.mir κ.lft (Tuple (K ∷ V ∷ [])) in
    of_Lends (C.struct κ K V) (C.the_codes K.Denot V.Denot K.coded V.coded (marker.the_row P).coded)
    (C.the_heap κ.lft K V) (C.the_lent κ.lft K V) (λ d p. nothing_shr_laws) (
      copy_shared RawPtr-field RawPtr-copy,
      (copy_shared (marker.the_field P) (field_copy (marker.the_type P) tt), tt),
    )
    (λ M 𝓤 𝓛 d p. Lends-nothing 𝓛 (C.the_heap κ.lft K V d) (C.the_row κ K V).lives)
