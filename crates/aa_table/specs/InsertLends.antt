-- The final state of a table after a mutable borrow of a value that was inserted has ended.
use Rattle.std.specs.Prelude.{◌≡◌, ◌∷◌, IsPermutation, Result}
use Rattle.std.specs.Borrow.{Fml, RattleType, MutBor, LendsSoOk}
use Rattle.std.specs.declared.alloc.Allocator as alloc
use Rattle.std.specs.declared.hash.Hasher as hasher
use Rattle.std.specs.declared.hash.BuildHasher as builder
use Rattle.aa_table.specs.Contents.{capacity_for, resizes_for, TableView}
use Rattle.aa_table.specs.Lends.{OfKeys}
use Rattle.aa_table.specs.contracts.table.Table.{the_row}

-- the table `u` is `t` with the entry of `k` and `v` too, and only the order of the others differs
pub record Adds {K V S : Type 0} (t : TableView K V S) (k : K) (v : V) (u : TableView K V S)
    : Type 0 where
  pub entries : IsPermutation ((k, v) ∷ t.entries) u.entries
  pub capacity : u.capacity ≡ capacity_for t 1
  pub resizes : u.resizes ≡ resizes_for t 1
  pub builder : u.builder ≡ t.builder

-- the final state of the table `t`: it has `k` too, with the last value written through `r`, or it
-- is unchanged if `r` is an error
abbrev pub lends_added : (K V S A H : RattleType) (g : OfKeys K.Denot)
    (b : builder.Ghosts S.Denot H.Denot) (w : hasher.Ghosts H.Denot) (a : alloc.Ghosts A.Denot)
    → MutBor (TableView K.Denot V.Denot S.Denot) → K.Denot → {E : Type 0}
    → Result (MutBor V.Denot) E → Fml
lends_added K V S A H g b w a t key r =
    LendsSoOk (the_row K V S A H (record { eq = g.eq }) (record { hash_input = g.hash_input }) b w a)
    V t r (λ u x. Adds t.now key x u) (λ u. u ≡ t.now)
