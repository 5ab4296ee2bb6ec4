use Rattle.std.proofs.Common.{◌≡◌, ℕ, ◌^◌, ◌-◌, ◌*◌, length}
use Rattle.std.specs.Prelude.{min}
use Rattle.ex_trees.specs.Trees.{nodes_of_all, with_values}
use Rattle.ex_trees.proofs.Nodes.{changed_from}
use Rattle.ex_trees.proofs.tree.+double.Given as goal

-- the children before the index are doubled, and those from it on are as they were
abbrev pub invariant-loop-child : goal.invariant-loop-child
invariant-loop-child g l =
    let double : ℕ → ℕ = λ n. min (n * 2) (2 ^ 64 - 1) in
    goal.unvisited-loop-child g l × (changed_from double l.child-index l.child-items ≡ with_values double (nodes_of_all l.initial.child-items)) × (length l.child-items ≡ length l.initial.child-items)
