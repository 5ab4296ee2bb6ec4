-- The final state of a slot map after a mutable borrow of one of its values has ended.
use Rattle.std.specs.Prelude.{Option}
use Rattle.std.specs.Borrow.{Fml, RattleType, MutBor, Lends, LendsIf}
use Rattle.std.specs.declared.alloc.Allocator.{Ghosts}
use Rattle.aa_slots.specs.declared.key.KeyData.{KeyData}
use Rattle.aa_slots.specs.Slotted.{Slotted, with_value}
use Rattle.aa_slots.specs.contracts.map.SlotMap.{the_row}

-- the final state of the map `m`: the key `k` has the last value written through `r`, or the map is
-- unchanged if `r` is `None`
abbrev pub lends_value : (T A K : RattleType) (g : Ghosts A.Denot) → MutBor (Slotted T.Denot) → KeyData
    → Option (MutBor T.Denot) → Fml
lends_value T A K g m k r = LendsIf (the_row T A K g) T m r (λ x. with_value m.now k x) m.now

-- the final state of the map `m`: the key `k`, which has a value, has the last one written through
-- `r`
abbrev pub lends_there : (T A K : RattleType) (g : Ghosts A.Denot) → MutBor (Slotted T.Denot) → KeyData
    → MutBor T.Denot → Fml
lends_there T A K g m k r = Lends (the_row T A K g) T m r (λ x. with_value m.now k x)
