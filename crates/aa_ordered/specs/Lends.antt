-- The final state of an ordered map after a mutable borrow of one of its values has ended.
use Rattle.std.specs.Prelude.{Bool, Option}
use Rattle.std.specs.Borrow.{Fml, RattleType, MutBor, Lends, LendsIf}
use Rattle.std.specs.BTreeMap.{insert_entry}
use Rattle.std.specs.Map.{set_value}
use Rattle.std.specs.declared.alloc.Allocator as alloc
use Rattle.std.specs.declared.cmp.Ordering.{Ordering}
use Rattle.aa_ordered.specs.Entries.{OrderedView}
use Rattle.aa_ordered.specs.contracts.map.OrderedMap.{the_row}

-- equality and order of the keys, as a clause names them `K.Ord`
abbrev pub OfKeys : Type 0 → Type 0
OfKeys K =
    record { partial_cmp : K → K → Option Ordering; eq : K → K → Bool; cmp : K → K → Ordering }

-- the type of a map in the terms of borrows
abbrev pub map_row : (K V A : RattleType) → OfKeys K.Denot → alloc.Ghosts A.Denot → RattleType
map_row K V A g a =
    the_row K V A (record { cmp = g.cmp }) (record { eq = g.eq })
    (record { partial_cmp = g.partial_cmp }) a

-- the final state of the map `m`: the key that passes the test has the last value written through
-- `r`, or the map is unchanged if `r` is `None`
abbrev pub lends_value : (K V A : RattleType) (g : OfKeys K.Denot) (a : alloc.Ghosts A.Denot)
    → MutBor (OrderedView K.Denot V.Denot) → (K.Denot → Bool) → Option (MutBor V.Denot) → Fml
lends_value K V A g a m test r =
    LendsIf (map_row K V A g a) V m r
    (λ x. record m.now { entries = set_value test m.now.entries x }) m.now

-- the final state of the map `m`: `k`, which is present, has the last value written through `r`
abbrev pub lends_there : (K V A : RattleType) (g : OfKeys K.Denot) (a : alloc.Ghosts A.Denot)
    → MutBor (OrderedView K.Denot V.Denot) → K.Denot → MutBor V.Denot → Fml
lends_there K V A g a m k r =
    Lends (map_row K V A g a) V m r
    (λ x. record m.now { entries = insert_entry g.cmp m.now.entries k x })
