-- What the removal of a key that is present leaves.
use Rattle.std.specs.Prelude.{◌≡◌, ◌+◌, Bool, None, length}
use Rattle.std.specs.Map.{remove_entry}
use Rattle.aa_table.specs.Contents.{HasRoom, Sets, TableView}

-- the table `u` is `t` without the key `k`, which was present: each other key has its own value and
-- keeps its place in the order, and there is capacity for one more key
pub record Removes {K V S : Type 0} (eq : K → K → Bool) (t : TableView K V S) (k : K)
    (u : TableView K V S) : Type 0 where
  pub sets : Sets eq t.entries k None u.entries
  pub entries : u.entries ≡ remove_entry (eq k) t.entries
  pub capacity : u.capacity ≡ t.capacity
  pub resizes : u.resizes ≡ t.resizes
  pub builder : u.builder ≡ t.builder
  pub one_less : length u.entries + 1 ≡ length t.entries
  pub room : HasRoom u 1
