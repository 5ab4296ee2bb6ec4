-- The final state of a table after a mutable borrow of all its values has ended.
use Rattle.std.specs.Prelude.{List, [], ◌∷◌}
use Rattle.std.specs.Borrow.{Fml, RattleType, MutBor}
use base.Fml.{GName}
use denote.Follow.{follows}
use Rattle.std.specs.declared.alloc.Allocator as alloc
use Rattle.std.specs.declared.hash.Hasher as hasher
use Rattle.std.specs.declared.hash.BuildHasher as builder
use Rattle.aa_table.specs.Contents.{TableView}
use Rattle.aa_table.specs.Lends.{OfKeys}
use Rattle.aa_table.specs.contracts.table.Table.{the_row}

-- the entries `es` with the values of the entries `fs`, in order
abbrev pub with_values_of : {K V : Type 0} → List (K × V) → List (K × V) → List (K × V)
with_values_of [] fs = []
with_values_of (e ∷ es) [] = e ∷ es
with_values_of (e ∷ es) (f ∷ fs) = (e.0, f.1) ∷ with_values_of es fs

-- the final state of the table `t`: each key has the last value written through the borrow `n`
abbrev pub lends_values : (K V S A H : RattleType) (g : OfKeys K.Denot)
    (b : builder.Ghosts S.Denot H.Denot) (w : hasher.Ghosts H.Denot) (a : alloc.Ghosts A.Denot)
    → MutBor (TableView K.Denot V.Denot S.Denot) → GName → Fml
lends_values K V S A H g b w a t n =
    let T = the_row K V S A H (record { eq = g.eq }) (record { hash_input = g.hash_input }) b w a in
    follows T T t.ghost_name n
    (λ u. record t.now { entries = with_values_of t.now.entries u.entries })
