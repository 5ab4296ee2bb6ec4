-- One entry less remains in the table of a `Drain`.
use Rattle.std.proofs.Common.{List, None, Option, Some, [], arith, ◌∷◌, ◌≡◌}
use Rattle.std.specs.Iterator.{MakesProgress, item_count}
use Rattle.std.specs.Prelude.{IsPermutation, MatchOption}
use Rattle.std.proofs.lemmas.List.Sorted.{length_permutation}

module _ {S X : Type 0} (left : S → List X) where
  pub drain-goes : (s t : S) (r : Option X) → MatchOption r ((left s ≡ []) × (left t ≡ [])) (λ e. IsPermutation (left s) (e ∷ left t)) → MakesProgress (λ _. Unit {0}) (item_count left) s r t
  drain-goes s t None m = record { on = λ h. tt; keeps = tt; rests = λ h. tt }
  drain-goes s t (Some x) p = record { on = λ h. (tt, tt, omega (arith, length_permutation (left s) (x ∷ left t) p)); keeps = tt; rests = λ h. tt }
