-- What a search tree finds, by its first comparison.
use Rattle.std.proofs.Common.{◌≡◌, ◌≢◌, ◌<◌, ℕ, Bool, true, false, sym, ap, ◌∙◌, arith}
use Rattle.std.specs.Prelude.{if◌then◌else◌, ◌==◌, ltb}
use Rattle.std.proofs.lemmas.Bool.Decides.{nat_tests}
use Rattle.aa_boxed.specs.Boxed.{Boxed}
use Rattle.ex_trees.specs.Searches.{finds, finds_step}
use Rattle.ex_trees.specs.declared.search.Search.{Search}
use Rattle.ex_trees.specs.declared.search.Search.TheOpen.{Search-F}
use Rattle.ex_trees.specs.declared.search.Search.TheFolds.{fold-roll-Search}
use Rattle.ex_trees.specs.declared.search.Search.TheVariants.{Leaf, Fork, rolls-Leaf, rolls-Fork}

pub finds-Leaf : (A : Type 0) (key : ℕ) → finds {A = A} Leaf key ≡ false
finds-Leaf A key = ap (λ f. f key) (ap finds (sym rolls-Leaf) ∙ fold-roll-Search A (ℕ → Bool) finds_step Search-F.Leaf)

pub finds-Fork : {A : Type 0} (below : Boxed (Search A) A) (here : ℕ) (above : Boxed (Search A) A) (key : ℕ)
    → finds (Fork below here above) key ≡ (if key == here then true else if ltb key here then finds below.value key else finds above.value key)
finds-Fork {A} below here above key = ap (λ f. f key) (ap finds (sym (rolls-Fork below here above)) ∙ fold-roll-Search A (ℕ → Bool) finds_step (Search-F.Fork below here above))

module _ {A : Type 0} (below above : Boxed (Search A) A) (here key : ℕ) where
  pub finds-below : key < here → finds (Fork below here above) key ≡ finds below.value key
  finds-below less = grind (arith, nat_tests, finds-Fork below here above key)

  pub finds-above : here < key → finds (Fork below here above) key ≡ finds above.value key
  finds-above more = grind (arith, nat_tests, finds-Fork below here above key)

  pub finds-here : key ≡ here → finds (Fork below here above) key ≡ true
  finds-here e = grind (arith, nat_tests, finds-Fork below here above key)

  -- a key alone
  pub finds-alone : key ≢ here → finds below.value key ≡ false → finds above.value key ≡ false → finds (Fork below here above) key ≡ false
  finds-alone n e f = grind (arith, nat_tests, finds-Fork below here above key)

  -- another tree on one side
  pub same_below : (less : Boxed (Search A) A) → finds less.value key ≡ finds below.value key → finds (Fork less here above) key ≡ finds (Fork below here above) key
  same_below less e = rw (finds-Fork less here above key, finds-Fork below here above key, e)

  pub same_above : (more : Boxed (Search A) A) → finds more.value key ≡ finds above.value key → finds (Fork below here more) key ≡ finds (Fork below here above) key
  same_above more e = rw (finds-Fork below here more key, finds-Fork below here above key, e)

pub ruleset found = (nat_tests, finds-Leaf, finds-Fork)
