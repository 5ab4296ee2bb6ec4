-- The final state of a table after a mutable borrow of one of its values has ended.
use Rattle.std.specs.Prelude.{Bool, Option}
use Rattle.std.specs.Borrow.{Fml, RattleType, MutBor, Lends, LendsIf}
use Rattle.std.specs.Hash.{HashWrites}
use Rattle.std.specs.Map.{set_value}
use Rattle.std.specs.declared.alloc.Allocator as alloc
use Rattle.std.specs.declared.hash.Hasher as hasher
use Rattle.std.specs.declared.hash.BuildHasher as builder
use Rattle.aa_table.specs.Contents.{TableView}
use Rattle.aa_table.specs.contracts.table.Table.{the_row}

-- equality and hash input of the keys, as a clause names them `K.Hash`
abbrev pub OfKeys : Type 0 → Type 0
OfKeys K = record { eq : K → K → Bool; hash_input : K → HashWrites }

-- the final state of the table `t`: the key that passes the test has the last value written through
-- `r`, or the table is unchanged if `r` is `None`
abbrev pub lends_value : (K V S A H : RattleType) (g : OfKeys K.Denot)
    (b : builder.Ghosts S.Denot H.Denot) (w : hasher.Ghosts H.Denot) (a : alloc.Ghosts A.Denot)
    → MutBor (TableView K.Denot V.Denot S.Denot) → (K.Denot → Bool) → Option (MutBor V.Denot) → Fml
lends_value K V S A H g b w a t test r =
    LendsIf (the_row K V S A H (record { eq = g.eq }) (record { hash_input = g.hash_input }) b w a)
    V t r
    (λ x. record t.now { entries = set_value test t.now.entries x }) t.now

-- the final state of the table `t`: `k`, which is present, has the last value written through `r`
abbrev pub lends_there : (K V S A H : RattleType) (g : OfKeys K.Denot)
    (b : builder.Ghosts S.Denot H.Denot) (w : hasher.Ghosts H.Denot) (a : alloc.Ghosts A.Denot)
    → MutBor (TableView K.Denot V.Denot S.Denot) → K.Denot → MutBor V.Denot → Fml
lends_there K V S A H g b w a t key r =
    Lends (the_row K V S A H (record { eq = g.eq }) (record { hash_input = g.hash_input }) b w a)
    V t r (λ x. record t.now { entries = set_value (g.eq key) t.now.entries x })
