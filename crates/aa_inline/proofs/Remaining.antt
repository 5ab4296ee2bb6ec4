-- What calls of the iterator over owned items return.
use Rattle.std.proofs.Common.{ap, length}
use Rattle.std.specs.Iterator.{YieldsFirst, YieldsLast}
use Rattle.std.specs.Iterator.Runs.{YieldsInOrder, YieldsInReverse}
use Rattle.std.proofs.iter.runs.Sources.{as_is, as_is_back, from_back, from_front}

module _ {T : Type 0} where
  -- from the front, and from the end
  pub in_order : YieldsInOrder (YieldsFirst {A = T} (λ rest. rest)) (λ rest. rest)
  in_order p s = as_is p p.from (from_front (YieldsFirst {A = T} (λ rest. rest)) (λ x. x) (λ rest. rest) (λ d e h. ap length h.0) (λ d x e h. h) p s)

  pub in_reverse : YieldsInReverse (YieldsLast {A = T} (λ rest. rest)) (λ rest. rest)
  in_reverse p s = as_is_back p p.from (from_back (YieldsLast {A = T} (λ rest. rest)) (λ x. x) (λ rest. rest) (λ d e h. ap length h.0) (λ d x e h. h) p s)
