-- Slices with equal fronts compare as what follows does, for the search.
use Rattle.std.proofs.Common.{Bool, List, Option, [], refl, sym, true, ◌++◌, ◌∷◌, ◌≡◌}
use Rattle.std.specs.Cmp.{IsPartialOrder, first_so, second_so}
use Rattle.std.specs.Cmp.Lexicographic.{pointwise, slice_partial_cmp}
use Rattle.std.specs.Ordering.{partial_ordering_then}
use Rattle.std.specs.declared.cmp.Ordering.{Ordering}
use mathlib.Core.Bool.{true≢false}

module _ {T : Type 0} {E : T → T → Bool} {C : T → T → Option Ordering}
    (o : IsPartialOrder E C) where
  pub past-equal : (xs ys zs ws : List T) → pointwise E xs ys ≡ true
      → slice_partial_cmp C (xs ++ zs) (ys ++ ws) ≡ slice_partial_cmp C zs ws
  past-equal [] [] zs ws e = refl
  past-equal [] (y ∷ ys) zs ws e = absurd (true≢false (sym e))
  past-equal (x ∷ xs) [] zs ws e = absurd (true≢false (sym e))
  past-equal (x ∷ xs) (y ∷ ys) zs ws e =
      λ i. partial_ordering_then ((o.matches_eq x y).0 (first_so (E x y) (pointwise E xs ys) e) i)
      (past-equal xs ys zs ws (second_so (E x y) (pointwise E xs ys) e) i)

pub ruleset passed = (past-equal)
