-- The equations of `nodes`, and the result of a walk over the children.
use Rattle.std.proofs.Common.{◌≡◌, ℕ, zero, suc, ◌+◌, ◌<◌, ◌≤◌, List, [], ◌∷◌, ◌++◌, map, take, drop, set, length, get_or, refl, sym, ap, ◌∙◌, arith, add-one, append_assoc}
use Rattle.std.proofs.lemmas.List.{append-nil, drop_all, length-map, map-append, take_all, take_at}
use Rattle.std.specs.Prelude.{flat_map}
use Rattle.std.specs.List.{refill}
use Rattle.ex_trees.specs.Trees.{nodes, nodes_step, nodes_of_all, with_values}
use Rattle.ex_trees.specs.declared.tree.Tree.{Tree}
use Rattle.ex_trees.specs.declared.tree.Tree.TheOpen.{Tree-F}
use Rattle.ex_trees.specs.declared.tree.Tree.TheViews.{out-Tree, roll-Tree}
use Rattle.ex_trees.specs.declared.tree.Tree.TheFolds.{fold-roll-Tree, fold_out-Tree}

-- what is written back whole
pub refilled : {X : Type 0} (n : ℕ) (xs ws : List X) → length ws ≡ n → refill n xs ws ≡ ws
refilled n xs ws e = take_at ws (drop (length ws) xs) n e

module _ {A : Type 0} where
  joined : (ts : List (Tree A)) → flat_map (λ ns. ns) (map nodes ts) ≡ nodes_of_all ts
  joined [] = refl
  joined (t ∷ ts) = ap (λ ns. nodes t ++ ns) (joined ts)

  closed : (v : ℕ) (ts : List (Tree A)) → (v, length (map nodes ts)) ∷ flat_map (λ ns. ns) (map nodes ts) ≡ (v, length ts) ∷ nodes_of_all ts
  closed v ts = rw (length-map ts (nodes {A = A}), joined ts)

  pub nodes_roll : (x : Tree-F A (Tree A)) → nodes (roll-Tree A x) ≡ (x.value, length x.below.items) ∷ nodes_of_all x.below.items
  nodes_roll x = fold-roll-Tree A (List (ℕ × ℕ)) nodes_step x ∙ closed x.value x.below.items

  pub nodes_out : (t : Tree A) → nodes t ≡ ((out-Tree A t).value, length (out-Tree A t).below.items) ∷ nodes_of_all (out-Tree A t).below.items
  nodes_out t = fold_out-Tree A (List (ℕ × ℕ)) nodes_step t ∙ closed (out-Tree A t).value (out-Tree A t).below.items

  -- the first i children as they are, and the others with their values changed
  abbrev pub changed_from : (ℕ → ℕ) → ℕ → List (Tree A) → List (ℕ × ℕ)
  changed_from f i ts = nodes_of_all (take i ts) ++ with_values f (nodes_of_all (drop i ts))

  -- one more is changed
  pub changed_more : (f : ℕ → ℕ) (i : ℕ) (ts : List (Tree A)) (d t : Tree A) → i < length ts → nodes t ≡ with_values f (nodes (get_or ts i d)) → changed_from f (suc i) (set ts i t) ≡ changed_from f i ts
  changed_more f i [] d t h e = absurd (omega (arith, h))
  changed_more f zero (u ∷ ts) d t h e = simp (append-nil, map-append, e)
  changed_more f (suc i) (u ∷ ts) d t h e = simp (append_assoc, changed_more f i ts d t (omega (arith, h)) e)

  -- the same, as a loop counts
  pub changed_next : (f : ℕ → ℕ) (i : ℕ) (ts : List (Tree A)) (d t : Tree A) → i < length ts → nodes t ≡ with_values f (nodes (get_or ts i d)) → changed_from f (i + 1) (set ts i t) ≡ changed_from f i ts
  changed_next f i ts d t h e = rw add-one (changed_more f i ts d t h e)

  -- all are changed
  pub changed_all : (f : ℕ → ℕ) (i : ℕ) (ts : List (Tree A)) → length ts ≤ i → changed_from f i ts ≡ nodes_of_all ts
  changed_all f i ts h = rw (take_all i ts h, drop_all i ts h) (append-nil (nodes_of_all ts))

  -- a tree whose value and children are changed
  pub changed_whole : (f : ℕ → ℕ) (old new : Tree A) (i v : ℕ) (us ts : List (Tree A)) → (out-Tree A new).value ≡ v → (out-Tree A new).below.items ≡ us → (out-Tree A old).below.items ≡ ts → v ≡ f (out-Tree A old).value → length us ≡ length ts → length us ≤ i
      → changed_from f i us ≡ with_values f (nodes_of_all ts) → nodes new ≡ with_values f (nodes old)
  changed_whole f old new i v us ts e h k w n le s =
      rw (nodes_out new, nodes_out old, e, h, k, n, w) (ap (λ ns. (f (out-Tree A old).value, length ts) ∷ ns) (sym (changed_all f i us le) ∙ s))

  pub ruleset changed = (nodes_roll, nodes_out)
