-- The equations of `total` and of `height`, and a tree whose push failed.
use Rattle.std.proofs.Common.{◌≡◌, ℕ, suc, ◌+◌, ◌<◌, List, [], ◌∷◌, ◌++◌, length, drop, get_or, map, sym, ap, ◌∙◌, arith}
use Rattle.std.specs.Prelude.{min, max}
use Rattle.std.proofs.lemmas.List.{drop_more}
use Rattle.aa_vec.specs.Vector.{Vector}
use Rattle.ex_trees.specs.Trees.{total_step, total, total_of_all, height, height_of_all, height_step, greatest}
use Rattle.ex_trees.specs.declared.tree.Tree.{Tree}
use Rattle.ex_trees.specs.declared.tree.Tree.TheOpen.{Tree-F}
use Rattle.ex_trees.specs.declared.tree.Tree.TheViews.{out-Tree, roll-Tree, roll-out-Tree}
use Rattle.ex_trees.specs.declared.tree.Tree.TheFolds.{fold-roll-Tree, fold_out-Tree}

-- the levels so far, once those of one more child are known up to a bound
more_levels : (h m r top : ℕ) → min (suc (max (max (min h top) m) r)) top ≡ min (suc (max m (max h r))) top
more_levels h m r top = omega arith

module _ {A : Type 0} where
  pub total_roll : (x : Tree-F A (Tree A)) → total (roll-Tree A x) ≡ x.value + total_of_all x.below.items
  total_roll = fold-roll-Tree A ℕ total_step

  pub total_out : (t : Tree A) → total t ≡ (out-Tree A t).value + total_of_all (out-Tree A t).below.items
  total_out = fold_out-Tree A ℕ total_step

  pub total_of_all_push : (ts : List (Tree A)) (t : Tree A) → total_of_all (ts ++ (t ∷ [])) ≡ total_of_all ts + total t
  total_of_all_push [] t = omega arith
  total_of_all_push (u ∷ ts) t = omega (arith, total_of_all_push ts t)

  pub height_out : (t : Tree A) → height t ≡ suc (greatest (map height (out-Tree A t).below.items))
  height_out = fold_out-Tree A ℕ height_step

  pub levels_next : (xs : List (Tree A)) (i : ℕ) (d : Tree A) (most level top n : ℕ) → i < length xs → d ≡ get_or xs i d → level ≡ min (height d) top → min (suc (max most (height_of_all (drop i xs)))) top ≡ n → min (suc (max (max level most) (height_of_all (drop (i + 1) xs)))) top ≡ n
  levels_next xs i d most level top n lt is l inv =
      let rest = height_of_all (drop (i + 1) xs) in
      let here : height_of_all (drop i xs) ≡ max (height d) rest = ap height_of_all (drop_more xs i d lt) ∙ ap (λ u. max (height u) rest) (sym is) in
      rw l (more_levels (height d) most rest top ∙ ap (λ k. min (suc (max most k)) top) (sym here) ∙ inv)

  pub failed_unchanged : (t : Tree A) (below : Vector (Tree A) A) → below ≡ (out-Tree A t).below → roll-Tree A (record { below = below; value = (out-Tree A t).value }) ≡ t
  failed_unchanged t below same = ap (λ v. roll-Tree A (record { below = v; value = (out-Tree A t).value })) same ∙ roll-out-Tree A t

pub ruleset totals = (total_roll, total_out, total_of_all_push, failed_unchanged)
