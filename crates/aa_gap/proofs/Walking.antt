-- What runs of the iterators return.
use Rattle.aa_gap.proofs.Common.{List, YieldsFirst, YieldsInOrder, YieldsInReverse, YieldsLast, ap, length, length-append, take, take-append-add, take-length, ◌++◌, ◌+◌, ◌∙◌, ◌≡◌}
use Rattle.std.proofs.iter.runs.Sources.{as_is, as_is_back, from_front, from_back}
use Rattle.aa_raw.specs.IntoIter.{Remaining}
use Rattle.std.specs.Map.Iter.{TakesFirst, TakesLast, ShowsInOrder, ShowsInReverse, deref}

module _ {T : Type 0} where
  pub runs-in_order : ShowsInOrder (deref {X = T})
  runs-in_order =
      from_front (TakesFirst deref) deref (λ s. s) (λ s t h. ap length h.0) (λ s x t h. h)

  pub runs-in_reverse : ShowsInReverse (deref {X = T})
  runs-in_reverse =
      from_back (TakesLast deref) deref (λ s. s) (λ s t h. ap length h.0) (λ s x t h. h)

  -- the whole text, where the cursor is at its end
  pub before-end : (xs ys : List T) → take (length xs + length ys) (xs ++ ys) ≡ xs ++ ys
  before-end xs ys = take-append-add xs ys (length ys) ∙ ap (λ zs. xs ++ zs) (take-length ys)

pub ruleset all_before = (before-end, length-append)

pub ruleset walked = (runs-in_order, runs-in_reverse)

-- what runs of the iterator by value return
module _ {T A : Type 0} where
  abbrev left : Remaining T A → List T
  left s = s.items

  pub runs-taken : YieldsInOrder (YieldsFirst left) left
  runs-taken p s =
      as_is p (left p.from)
      (from_front (YieldsFirst left) (λ x. x) left (λ s t h. ap length h.0) (λ s x t h. h) p s)

  pub runs-taken_back : YieldsInReverse (YieldsLast left) left
  runs-taken_back p s =
      as_is_back p (left p.from)
      (from_back (YieldsLast left) (λ x. x) left (λ s t h. ap length h.0) (λ s x t h. h) p s)
