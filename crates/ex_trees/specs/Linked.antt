-- The values of a linked list.
use Rattle.std.specs.Prelude.{ℕ, List, [], ◌∷◌, Option, None, Some}
use Rattle.aa_boxed.specs.Boxed.{Boxed}
use Rattle.ex_trees.specs.declared.list.Node.{Node}
use Rattle.ex_trees.specs.declared.list.Node.TheOpen.{Node-F}
use Rattle.ex_trees.specs.declared.list.Node.TheFolds.{fold-Node}

-- the values after a node, given those of the node in the box
abbrev pub tail_of : {A : Type 0} → Option (Boxed (List ℕ) A) → List ℕ
tail_of None = []
tail_of (Some b) = b.value

-- the values from the node `n` on, given those after it
abbrev pub values_step : {A : Type 0} → Node-F A (List ℕ) → List ℕ
values_step n = n.value ∷ tail_of n.next

-- the values from a node on
abbrev pub values : {A : Type 0} → Node A → List ℕ
values {A} = fold-Node A (List ℕ) values_step

-- the values of a list
abbrev pub values_of : {A : Type 0} → Option (Boxed (Node A) A) → List ℕ
values_of None = []
values_of (Some b) = values b.value
