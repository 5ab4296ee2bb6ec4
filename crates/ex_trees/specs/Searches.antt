-- The keys of a search tree.
use Rattle.std.specs.Prelude.{ℕ, Bool, true, false, ltb, if◌then◌else◌, ◌==◌}
use Rattle.ex_trees.specs.declared.search.Search.{Search}
use Rattle.ex_trees.specs.declared.search.Search.TheOpen.{Search-F}
use Rattle.ex_trees.specs.declared.search.Search.TheFolds.{fold-Search}

-- whether a search for `key` finds it, given the searches in the trees below and above
abbrev pub finds_step : {A : Type 0} → Search-F A (ℕ → Bool) → ℕ → Bool
finds_step Search-F.Leaf key = false
finds_step (Search-F.Fork below here above) key =
    if key == here then true else if ltb key here then below.value key else above.value key

-- whether a search by comparisons finds a key
abbrev pub finds : {A : Type 0} → Search A → ℕ → Bool
finds {A} = fold-Search A (ℕ → Bool) finds_step
