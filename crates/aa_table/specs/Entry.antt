-- What contracts see of an `Entry`: the borrowed table, the key that was passed, and its value.
use Rattle.std.specs.Prelude.{◌≡◌, Bool, true, false, Option, None, Some, is_some}
use Rattle.std.specs.Borrow.{MutBor}
use Rattle.std.specs.Map.{set_value}
use Rattle.std.specs.Option.{option_map, unwrap_or}
use Rattle.std.specs.declared.cmp.PartialEq as eq
use Rattle.std.specs.declared.hash.Hash as hash
use Rattle.std.specs.declared.hash.Hasher as hasher
use Rattle.std.specs.declared.hash.BuildHasher as builder
use Rattle.aa_table.specs.Contents.{entry_of, value, Sets, TableView}
use Rattle.aa_table.specs.InsertLends.{Adds}
use Rattle.aa_table.specs.declared.table.entry.Entry.{Entry}
pub use Rattle.aa_table.specs.declared.table.entry.Entry.TheVariants.{Occupied, Vacant}

module _ {K V S : Type 0} (eq : K → K → Bool) where
  -- the table `t` with the value `v` in the entry of the key `k`, if it has one
  abbrev pub with_value : TableView K V S → K → V → TableView K V S
  with_value t k v = record t { entries = set_value (eq k) t.entries v }

  -- the table `u` is `t` with the value `v` for the key `k`: each other key has its own, an entry of
  -- an equal key keeps its key and its place, and a new entry may change the order of the others
  pub record Puts (t : TableView K V S) (k : K) (v : V) (u : TableView K V S) : Type 0 where
    pub sets : Sets eq t.entries k (Some v) u.entries
    pub written : is_some (value eq t.entries k) ≡ true → u ≡ with_value t k v
    pub added : is_some (value eq t.entries k) ≡ false → Adds t k v u

module _ {K V S A H : Type 0} {g : eq.Ghosts K} {h : hash.Ghosts K} {b : builder.Ghosts S H}
    {w : hasher.Ghosts H} where
  -- the reference to the table of the entry `e`
  abbrev pub entry_table : Entry K V S A H g h b w → MutBor (TableView K V S)
  entry_table (Occupied o) = o.table
  entry_table (Vacant e) = e.table

  -- the key for which the entry `e` was made
  abbrev pub entry_key : Entry K V S A H g h b w → K
  entry_key (Occupied o) = o.key
  entry_key (Vacant e) = e.key

  -- the stored key of the entry `e`, or the key for which it was made if none is stored
  abbrev pub stored_key : Entry K V S A H g h b w → K
  stored_key (Occupied o) =
      unwrap_or (option_map (λ e. e.0) (entry_of g.eq o.table.now.entries o.key)) o.key
  stored_key (Vacant e) = e.key

  -- the value of the key of the entry `e`
  abbrev pub entry_value : Entry K V S A H g h b w → Option V
  entry_value (Occupied o) = value g.eq o.table.now.entries o.key
  entry_value (Vacant e) = None

  -- `P` if the entry is occupied, and `Q` if it is vacant
  abbrev pub MatchEntry : Entry K V S A H g h b w → Type 0 → Type 0 → Type 0
  MatchEntry (Occupied o) P Q = P
  MatchEntry (Vacant e) P Q = Q

  -- the table `u` is that of the entry `e` with the value `v` for its key
  abbrev pub Writes : Entry K V S A H g h b w → V → TableView K V S → Type 0
  Writes (Occupied o) v u = u ≡ with_value g.eq o.table.now o.key v
  Writes (Vacant e) v u = Adds e.table.now e.key v u

  -- `d` is an entry of the same table and key as `e`, once `v` is its value
  pub record IsWritten (e : Entry K V S A H g h b w) (v : V) (d : Entry K V S A H g h b w)
      : Type 0 where
    pub lender : (entry_table d).ghost_name ≡ (entry_table e).ghost_name
    pub key : entry_key d ≡ entry_key e
    pub table : Writes e v (entry_table d).now
