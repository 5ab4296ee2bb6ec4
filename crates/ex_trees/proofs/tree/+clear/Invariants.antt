use Rattle.std.proofs.Common.{◌≡◌, ℕ, ◌≤◌, length, get_or}
use Rattle.ex_trees.specs.Trees.{nodes_of_all, with_values}
use Rattle.ex_trees.specs.declared.tree.Tree.{Tree, out-Tree}
use Rattle.ex_trees.proofs.Nodes.{changed_from}
use Rattle.ex_trees.proofs.tree.+clear.Given as goal

abbrev pub decreases-clear : goal.decreases-clear
decreases-clear g l = goal.size-clear g l

-- the children from the index on are as they were, and those before it are cleared
abbrev pub invariant-loop-i : goal.invariant-loop-i
invariant-loop-i g l =
    let xs = (out-Tree _ l.tree).below.items in let ys = (out-Tree _ l.initial.tree).below.items in
    (length xs ≡ length ys) × ((k : ℕ) (d : Tree _) → l.i ≤ k → get_or xs k d ≡ get_or ys k d) × (l.i-end ≡ length ys)
    × ((out-Tree _ l.tree).value ≡ 0) × (changed_from (λ _. 0) l.i xs ≡ with_values (λ _. 0) (nodes_of_all ys))
