-- The final state of a slot map after a mutable borrow of all its values has ended.
use Rattle.std.specs.Prelude.{ℕ, List, [], ◌∷◌, Option, None, Some}
use Rattle.std.specs.Borrow.{Fml, RattleType, MutBor}
use base.Fml.{GName}
use denote.Follow.{follows}
use Rattle.std.specs.declared.alloc.Allocator.{Ghosts}
use Rattle.aa_slots.specs.Slotted.{Slotted}
use Rattle.aa_slots.specs.contracts.map.SlotMap.{the_row}

module _ {T : Type 0} where
  -- the slot `s` with the value of the slot `t`, if both have one
  abbrev pub with_value_of : (s t : Option (ℕ × T)) → Option (ℕ × T)
  with_value_of None t = None
  with_value_of (Some e) None = Some e
  with_value_of (Some e) (Some f) = Some (e.0, f.1)

  -- the slots `ss` with the values of the slots `ts`
  abbrev pub with_values_of : (ss ts : List (Option (ℕ × T))) → List (Option (ℕ × T))
  with_values_of [] ts = []
  with_values_of (s ∷ ss) [] = s ∷ ss
  with_values_of (s ∷ ss) (t ∷ ts) = with_value_of s t ∷ with_values_of ss ts

-- the final state of the map `m`: each key has the last value written through the borrow `n`
abbrev pub lends_values : (T A K : RattleType) (g : Ghosts A.Denot) → MutBor (Slotted T.Denot)
    → GName → Fml
lends_values T A K g m n =
    let R = the_row T A K g in
    follows R R m.ghost_name n
    (λ u. record {
      slots = with_values_of m.now.slots u.slots;
      capacity = m.now.capacity;
      growth = m.now.growth;
      resizes = m.now.resizes;
      issued = m.now.issued;
    })
