-- A map to which a key is added, and its final state after a mutable borrow of the new value.
use Rattle.std.specs.Prelude.{◌≡◌, ◌<◌, length, Result}
use Rattle.std.specs.Borrow.{Fml, RattleType, MutBor, LendsSoOk}
use Rattle.std.specs.BTreeMap.{insert_entry}
use Rattle.std.specs.declared.alloc.Allocator as alloc
use Rattle.std.specs.declared.cmp.Ordering.{Ordering}
use Rattle.aa_ordered.specs.Capacity.{resizes_to, MayGrowForOne}
use Rattle.aa_ordered.specs.Entries.{OrderedView}
use Rattle.aa_ordered.specs.Lends.{map_row, OfKeys}

-- the map `u` is `m` after the value `v` was inserted for the key `k`; its capacity is the same if
-- it was sufficient, else it may have grown; it has one more resize if its capacity changed
pub record Inserts {K V : Type 0} (cmp : K → K → Ordering) (m : OrderedView K V) (k : K) (v : V)
    (u : OrderedView K V) : Type 0 where
  pub entries : u.entries ≡ insert_entry cmp m.entries k v
  pub capacity : length m.entries < m.capacity → u.capacity ≡ m.capacity
  pub grown : MayGrowForOne m u
  pub resizes : u.resizes ≡ resizes_to m u.capacity

-- the final state of the map `m`: the last value written through `r` was inserted for `k`, or the
-- map is unchanged if `r` is an error
abbrev pub lends_inserted : (K V A : RattleType) (g : OfKeys K.Denot) (a : alloc.Ghosts A.Denot)
    → MutBor (OrderedView K.Denot V.Denot) → K.Denot → {E : Type 0}
    → Result (MutBor V.Denot) E → Fml
lends_inserted K V A g a m k r =
    LendsSoOk (map_row K V A g a) V m r (λ u x. Inserts g.cmp m.now k x u) (λ u. u ≡ m.now)
