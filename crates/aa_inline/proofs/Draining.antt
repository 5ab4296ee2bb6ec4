-- Steps of a drain.
use Rattle.std.proofs.Common.{List, [], ◌∷◌, length, refl, ap, ◌∙◌, subst}
use Rattle.std.specs.Prelude.{ℕ}
use Rattle.std.specs.Iterator.{Yields}
use Rattle.std.specs.Iterator.Runs.{YieldsInOrder, YieldsInReverse}
use Rattle.std.proofs.iter.runs.Sources.{from_front, from_back, as_is, as_is_back}
use Rattle.aa_inline.specs.Drain.{drain_remaining, DrainKeeps, drains_first, drains_last}
use Rattle.aa_inline.specs.declared.drain.Drain.{Drain}

module _ {T A : Type 0} {N : ℕ} where
  -- nothing else is changed along the calls
  pub keeps-along : (d : Drain T A N) (xs : List T) (later : Drain T A N) → Yields drains_first d xs later → DrainKeeps d later
  keeps-along d [] later y = subst (DrainKeeps d) y (record { lender = refl; left = refl })
  keeps-along d (x ∷ xs) later y =
      let first = y.1.0 in let others = keeps-along y.0 xs later y.2 in
      record { lender = others.lender ∙ first.lender; left = others.left ∙ first.left }

  -- what calls of `next` return, and calls of `next_back`
  pub runs-in_order : YieldsInOrder (drains_first {T = T} {A = A} {N = N}) drain_remaining
  runs-in_order p s = as_is p (drain_remaining p.from) (from_front (drains_first {T = T} {A = A} {N = N}) (λ x. x) drain_remaining (λ d e h. ap length h.1.0) (λ d x e h. h.1) p s)

  pub runs-in_reverse : YieldsInReverse (drains_last {T = T} {A = A} {N = N}) drain_remaining
  runs-in_reverse p s = as_is_back p (drain_remaining p.from) (from_back (drains_last {T = T} {A = A} {N = N}) (λ x. x) drain_remaining (λ d e h. ap length h.1.0) (λ d x e h. h.1) p s)
