-- The view of the fields of a table.
use Rattle.std.specs.Prelude.{ℕ, List, Option}
use Rattle.allocator_api2.specs.Places.{somes}
use Rattle.aa_table.specs.Contents.{TableView}

-- the view of a table with the builder `b`, the places `cs`, this capacity and so many resizes
abbrev pub view_of : {K V S : Type 0} → S → List (Option (K × V)) → (capacity resizes : ℕ)
    → TableView K V S
view_of b cs capacity resizes =
    record { entries = somes cs; capacity = capacity; resizes = resizes; builder = b }
