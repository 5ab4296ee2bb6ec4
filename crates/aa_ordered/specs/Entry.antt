-- What contracts see of an `Entry`: the borrowed map, the key that was passed, and its value.
use Rattle.std.specs.Prelude.{◌≡◌, Option, Result}
use Rattle.std.specs.Borrow.{Fml, RattleType, MutBor, Lends, LendsSoOk}
use Rattle.std.specs.BTreeMap.{insert_entry}
use Rattle.std.specs.Option.{option_map, unwrap_or}
use Rattle.std.specs.declared.alloc.Allocator as alloc
use Rattle.std.specs.declared.cmp.Ord as ord
use Rattle.std.specs.declared.cmp.PartialEq as eq
use Rattle.std.specs.declared.cmp.PartialOrd as partial
use Rattle.std.specs.declared.cmp.Ordering.{Ordering}
use Rattle.aa_ordered.specs.Entries.{entry_of, value, without, OrderedView}
use Rattle.aa_ordered.specs.Inserting.{Inserts}
use Rattle.aa_ordered.specs.contracts.map.OrderedMap.{the_row}
use Rattle.aa_ordered.specs.declared.entry.Entry.{Entry}
use Rattle.aa_ordered.specs.declared.entry.OccupiedEntry.{OccupiedEntry}
pub use Rattle.aa_ordered.specs.declared.entry.Entry.TheVariants.{Occupied, Vacant}

module _ {K V A : Type 0} {o : ord.Ghosts K} {e : eq.Ghosts K} {p : partial.Ghosts K} where
  -- the reference to the map of the entry `n`
  abbrev pub entry_map : Entry K V A o e p → MutBor (OrderedView K V)
  entry_map (Occupied n) = n.map
  entry_map (Vacant n) = n.map

  -- the key for which the entry `n` was made
  abbrev pub entry_key : Entry K V A o e p → K
  entry_key (Occupied n) = n.key
  entry_key (Vacant n) = n.key

  -- the stored key of the entry `n`, or the key for which it was made if none is stored
  abbrev pub stored_key : Entry K V A o e p → K
  stored_key (Occupied n) =
      unwrap_or (option_map (λ x. x.0) (entry_of o.cmp n.map.now.entries n.key)) n.key
  stored_key (Vacant n) = n.key

  -- the value of the key of the entry `n`
  abbrev pub entry_value : Entry K V A o e p → Option V
  entry_value n = value o.cmp (entry_map n).now.entries (entry_key n)

  -- `P` if the entry is occupied, and `Q` if it is vacant
  abbrev pub MatchEntry : Entry K V A o e p → Type 0 → Type 0 → Type 0
  MatchEntry (Occupied n) P Q = P
  MatchEntry (Vacant n) P Q = Q

-- the map `m` with the value `v` for the key `k`, which it has
abbrev pub writes : {K V : Type 0} (cmp : K → K → Ordering) → OrderedView K V → K → V
    → OrderedView K V
writes cmp m k v = record m { entries = insert_entry cmp m.entries k v }

-- the map `m` without the key `k`
abbrev pub removes : {K V : Type 0} (cmp : K → K → Ordering) → OrderedView K V → K
    → OrderedView K V
removes cmp m k = record m { entries = without cmp m.entries k }

module _ (K V A : RattleType) {o : ord.Ghosts K.Denot} {e : eq.Ghosts K.Denot}
    {p : partial.Ghosts K.Denot} (a : alloc.Ghosts A.Denot) where
  -- the final state of the map of the entry `n`: its key has the last value written through `r`, or
  -- the map is unchanged if `r` is an error
  abbrev pub lends_entry : {E : Type 0} → Entry K.Denot V.Denot A.Denot o e p
      → Result (MutBor V.Denot) E → Fml
  lends_entry n r =
      LendsSoOk (the_row K V A o e p a) V (entry_map n) r
      (λ u x. Inserts o.cmp (entry_map n).now (entry_key n) x u) (λ u. u ≡ (entry_map n).now)

  -- the final state of the map of the occupied entry `n`: its key has the last value written
  -- through `r`
  abbrev pub lends_occupied : OccupiedEntry K.Denot V.Denot A.Denot o e p → MutBor V.Denot → Fml
  lends_occupied n r = Lends (the_row K V A o e p a) V n.map r (writes o.cmp n.map.now n.key)
