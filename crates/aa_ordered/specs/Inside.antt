-- The invariant of the fields of an ordered map, and their view.
use Rattle.std.specs.Prelude.{◌≡◌, ℕ, length}
use Rattle.std.specs.declared.cmp.Ordering.{Ordering}
use Rattle.aa_ordered.specs.Balance.{joined, lengths, IsBalanced}
use Rattle.aa_ordered.specs.Capacity.{capacity_of}
use Rattle.aa_ordered.specs.Entries.{OrderedView, IsOrdered}
use Rattle.aa_ordered.specs.Leaves.{LeavesView}

module _ {K V : Type 0} where
  -- the view of a map with these leaves: the entries of all lists, the capacity, and the resizes
  abbrev pub view_of : LeavesView (K × V) → OrderedView K V
  view_of leaves =
      record {
        entries = joined leaves.lists;
        capacity = capacity_of leaves.room;
        resizes = leaves.resizes;
      }

  -- the leaves of a map of `len` entries: they are balanced, and their entries are in order
  pub record IsMap (cmp : K → K → Ordering) (leaves : LeavesView (K × V)) (len : ℕ) : Type 0 where
    pub count : len ≡ length (joined leaves.lists)
    pub balanced : IsBalanced (lengths leaves.lists)
    pub ordered : IsOrdered cmp (joined leaves.lists)
