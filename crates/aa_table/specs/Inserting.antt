-- The errors of insertion.
use Rattle.std.specs.Prelude.{◌≡◌, Bool, true, None, is_some, length}
use Rattle.aa_table.specs.Full.{LacksRoom}
use Rattle.aa_table.specs.Contents.{capacity_for, value, TableView}
use Rattle.aa_table.specs.declared.table.TryInsertError.{TryInsertError}
use Rattle.aa_table.specs.declared.table.TryInsertError.TheVariants.{Occupied, Refused}

-- the pair of `k` and `v` was not inserted into the table `t`, and is returned: the key is present,
-- or it is absent and the table could not reserve capacity
abbrev pub TryInsertFails : {K V S : Type 0} (eq : K → K → Bool) (t : TableView K V S) (k : K)
    (v : V) → TryInsertError K V → Type 0
TryInsertFails eq t k v (Occupied key value_of) =
    (key ≡ k) × (value_of ≡ v) × (is_some (value eq t.entries k) ≡ true)
TryInsertFails eq t k v (Refused r) = (r.source ≡ (k, v)) × (value eq t.entries k ≡ None)
    × LacksRoom t.capacity (length t.entries) 1 (capacity_for t 1) r.error
