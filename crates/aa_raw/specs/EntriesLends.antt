-- The final state of a block of pairs after a mutable borrow of its entries has ended.
use Rattle.std.specs.Prelude.{[], ◌∷◌}
use base.Fml.{Fml, GName}
use denote.Follow.{follows}
use denote.RattleType.{RattleType}
use denote.Ref.{MutBor}
use denote.Struct.Tuple.{Tuple}
use Rattle.std.specs.declared.alloc.Allocator.{Ghosts}
use Rattle.aa_raw.specs.Block.{Block, with_places}
use Rattle.aa_raw.specs.Entries.{values_of, with_values}
use Rattle.aa_raw.specs.contracts.raw_vec.RawVec.{the_row}

-- the block `b` with the values of the block `c` for its keys
abbrev pub with_values_of : {K V A : Type 0} → Block (K × V) A → Block (K × V) A → Block (K × V) A
with_values_of b c = with_places b (with_values b.places (values_of c.places))

module _ (K V A : RattleType) (g : Ghosts A.Denot) (m : MutBor (Block (K.Denot × V.Denot) A.Denot)) where
  -- the block keeps its keys in their places, with the last values written through the borrow `n`
  abbrev pub lends_entries : GName → Fml
  lends_entries n = follows (the_row (Tuple (K ∷ V ∷ [])) A g) (the_row (Tuple (K ∷ V ∷ [])) A g)
      m.ghost_name n (with_values_of m.now)
