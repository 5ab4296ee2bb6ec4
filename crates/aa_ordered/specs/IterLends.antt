-- The final state of a map after a mutable borrow of all its values has ended.
use Rattle.std.specs.Prelude.{List, [], ◌∷◌, drop, length}
use Rattle.std.specs.Borrow.{Fml, RattleType, MutBor}
use base.Fml.{GName}
use denote.Follow.{follows}
use Rattle.std.specs.declared.alloc.Allocator as alloc
use Rattle.aa_ordered.specs.Entries.{OrderedView}
use Rattle.aa_ordered.specs.Lends.{map_row, OfKeys}

module _ {K V : Type 0} where
  -- the entries `es` with the values of the entries `fs`, in order
  abbrev pub with_values_of : List (K × V) → List (K × V) → List (K × V)
  with_values_of [] fs = []
  with_values_of (e ∷ es) [] = e ∷ es
  with_values_of (e ∷ es) (f ∷ fs) = (e.0, f.1) ∷ with_values_of es fs

  -- the lists `ls` with the values of the entries `fs`, in order
  abbrev pub revalued : List (List (K × V)) → List (K × V) → List (List (K × V))
  revalued [] fs = []
  revalued (l ∷ ls) fs = with_values_of l fs ∷ revalued ls (drop (length l) fs)

-- the final state of the map `m`: each key has the last value written through the borrow `n`
abbrev pub lends_values : (K V A : RattleType) (g : OfKeys K.Denot) (a : alloc.Ghosts A.Denot)
    → MutBor (OrderedView K.Denot V.Denot) → GName → Fml
lends_values K V A g a m n =
    follows (map_row K V A g a) (map_row K V A g a) m.ghost_name n
    (λ u. record m.now { entries = with_values_of m.now.entries u.entries })
