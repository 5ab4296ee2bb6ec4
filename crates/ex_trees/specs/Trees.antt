-- The values of a tree: their sum, its height, and all nodes.
use Rattle.std.specs.Prelude.{ℕ, suc, ◌+◌, max, List, [], ◌∷◌, map, length, flat_map}
use Rattle.ex_trees.specs.declared.tree.Tree.{Tree}
use Rattle.ex_trees.specs.declared.tree.Tree.TheOpen.{Tree-F}
use Rattle.ex_trees.specs.declared.tree.Tree.TheFolds.{fold-Tree}

-- the sum of a list of numbers
abbrev pub sum_of : List ℕ → ℕ
sum_of [] = 0
sum_of (n ∷ ns) = n + sum_of ns

-- the sum of the node `t`, given those of its children
abbrev pub total_step : {A : Type 0} → Tree-F A ℕ → ℕ
total_step t = t.value + sum_of t.below.items

-- the sum of the values of a tree
abbrev pub total : {A : Type 0} → Tree A → ℕ
total {A} = fold-Tree A ℕ total_step

-- the sum of the values of the trees `ts`
abbrev pub total_of_all : {A : Type 0} → List (Tree A) → ℕ
total_of_all ts = sum_of (map total ts)

-- the greatest number of a list, 0 if it is empty
abbrev pub greatest : List ℕ → ℕ
greatest [] = 0
greatest (n ∷ ns) = max n (greatest ns)

-- the number of levels of the node `t`, given those of its children
abbrev pub height_step : {A : Type 0} → Tree-F A ℕ → ℕ
height_step t = suc (greatest t.below.items)

-- the number of levels of a tree
abbrev pub height : {A : Type 0} → Tree A → ℕ
height {A} = fold-Tree A ℕ height_step

-- the greatest number of levels of the trees `ts`
abbrev pub height_of_all : {A : Type 0} → List (Tree A) → ℕ
height_of_all ts = greatest (map height ts)

-- the nodes from the node `t` on, given those from its children on
abbrev pub nodes_step : {A : Type 0} → Tree-F A (List (ℕ × ℕ)) → List (ℕ × ℕ)
nodes_step t = (t.value, length t.below.items) ∷ flat_map (λ ns. ns) t.below.items

-- each value of a tree with the number of its children, from the root on, and child by child
abbrev pub nodes : {A : Type 0} → Tree A → List (ℕ × ℕ)
nodes {A} = fold-Tree A (List (ℕ × ℕ)) nodes_step

-- the nodes of the trees `ts`, tree by tree
abbrev pub nodes_of_all : {A : Type 0} → List (Tree A) → List (ℕ × ℕ)
nodes_of_all ts = flat_map nodes ts

-- the nodes `ns` with `f` applied to each value, and the same numbers of children
abbrev pub with_values : (ℕ → ℕ) → List (ℕ × ℕ) → List (ℕ × ℕ)
with_values f ns = map (λ n. (f n.0, n.1)) ns
