-- The errors of an insertion of a key that has to be absent.
use Rattle.std.specs.Prelude.{◌≡◌, true, None, is_some}
use Rattle.std.specs.declared.cmp.Ordering.{Ordering}
use Rattle.allocator_api2.specs.Errors.{IsErrorFor}
use Rattle.aa_ordered.specs.Capacity.{requested}
use Rattle.aa_ordered.specs.Entries.{value, OrderedView}
use Rattle.aa_ordered.specs.declared.map.TryInsertError.{TryInsertError}
use Rattle.aa_ordered.specs.declared.map.TryInsertError.TheVariants.{Occupied, Refused}

-- the pair of `k` and `v` was not inserted into the map `m`, and is returned: the key is present, or
-- it is absent and the map could not reserve capacity
abbrev pub TryInsertFails : {K V : Type 0} (cmp : K → K → Ordering) (m : OrderedView K V) (k : K)
    (v : V) → TryInsertError K V → Type 0
TryInsertFails cmp m k v (Occupied key value_of) =
    (key ≡ k) × (value_of ≡ v) × (is_some (value cmp m.entries k) ≡ true)
TryInsertFails cmp m k v (Refused r) = (r.source ≡ (k, v)) × (value cmp m.entries k ≡ None)
    × IsErrorFor r.error (requested m 1)
