-- Where a key belongs among entries in order.
use Rattle.std.proofs.Common.{◌≡◌, ◌+◌, ◌<◌, ◌++◌, ℕ, suc, zero, List, [], ◌∷◌, refl, arith, length, take, drop, get_or, add-one, ap, ◌∙◌}
use Rattle.std.specs.declared.cmp.Ordering.{Ordering}
use Rattle.std.specs.declared.cmp.Ordering.TheVariants.{Less, Equal, Greater}
use Rattle.std.specs.Ordering.{ordering_reverse}
use Rattle.std.specs.Cmp.{IsTotalOrder}
use Rattle.std.specs.Map.{keys_of}
use Rattle.core.specs.List.{AllByRecursion}
use Rattle.core.specs.List.Sorted.{IsStrictlySortedBy}
use Rattle.std.proofs.lemmas.List.Elements.{All-cons, All-head, All-nil, All-tail}
use Rattle.aa_ordered.specs.Entries.{AreGreater, AreLess, IsOrdered}

-- the order turned round
module _ {K : Type 0} {cmp : K → K → Ordering} (total : IsTotalOrder cmp) where
  pub turned : (x y : K) → cmp x y ≡ Less → cmp y x ≡ Greater
  turned x y h = total.antisymm y x ∙ ap ordering_reverse h

  pub turned-back : (x y : K) → cmp x y ≡ Greater → cmp y x ≡ Less
  turned-back x y h = total.antisymm y x ∙ ap ordering_reverse h

pub ordered-empty : {K : Type 0} (cmp : K → K → Ordering) → IsStrictlySortedBy cmp []
unfolding IsStrictlySortedBy
ordered-empty cmp = tt

-- an entry whose key is less than what compares with keys by `order`, and one whose key is greater
module _ {K V : Type 0} (order : K → Ordering) where
  abbrev pub IsBelow : K × V → Type 0
  IsBelow e = order e.0 ≡ Greater

  abbrev pub IsAbove : K × V → Type 0
  IsAbove e = order e.0 ≡ Less

module _ {K V : Type 0} (cmp : K → K → Ordering) where
  -- the first of entries in order, and the others
  pub ordered-tail : (e : K × V) (es : List (K × V)) → IsOrdered cmp (e ∷ es) → IsOrdered cmp es
  unfolding IsStrictlySortedBy
  ordered-tail e es s = s.1

  pub ordered-head : (e : K × V) (es : List (K × V)) → IsOrdered cmp (e ∷ es) → AreGreater (cmp e.0) es
  unfolding IsStrictlySortedBy
  ordered-head e es s = from es s.0
    where
      from : (xs : List (K × V)) → AllByRecursion (λ y. cmp e.0 y ≡ Less) (keys_of xs) → AreGreater (cmp e.0) xs
      from [] h = All-nil (IsAbove (cmp e.0))
      from (x ∷ xs) h = All-cons (IsAbove (cmp e.0)) x xs h.0 (from xs h.1)

  pub ordered-cons : (e : K × V) (es : List (K × V)) → AreGreater (cmp e.0) es → IsOrdered cmp es → IsOrdered cmp (e ∷ es)
  unfolding IsStrictlySortedBy
  ordered-cons e es h s = (to es h, s)
    where
      to : (xs : List (K × V)) → AreGreater (cmp e.0) xs → AllByRecursion (λ y. cmp e.0 y ≡ Less) (keys_of xs)
      to [] h = tt
      to (x ∷ xs) h = (All-head (IsAbove (cmp e.0)) x xs h, to xs (All-tail (IsAbove (cmp e.0)) x xs h))

  pub ordered-nil : (es : List (K × V)) → es ≡ [] → IsOrdered cmp es
  unfolding IsStrictlySortedBy
  ordered-nil es h = rw h tt

-- what compares with keys by `order` has a place in their order `cmp`
pub record FitsOrder {K : Type 0} (cmp : K → K → Ordering) (order : K → Ordering) : Type 0 where
  pub less : (x y : K) → order x ≡ Less → cmp x y ≡ Less → order y ≡ Less
  pub equal : (x y : K) → order x ≡ Equal → order y ≡ cmp x y

module _ {K : Type 0} {cmp : K → K → Ordering} {order : K → Ordering} (fits : FitsOrder cmp order) where
  -- it is greater than the keys before one that it is not less than
  greater-before : (x y : K) → cmp x y ≡ Less → (order y ≡ Less → order x ≡ Greater) → order x ≡ Greater
  greater-before x y l f = by (order x) refl
    where
      by : (r : Ordering) → order x ≡ r → order x ≡ Greater
      by Less e = f (fits.less x y e l)
      by Equal e = f (fits.equal x y e ∙ l)
      by Greater e = e

module _ {K V : Type 0} {cmp : K → K → Ordering} {order : K → Ordering} (fits : FitsOrder cmp order) where
  -- keys greater than one that is greater
  pub greater-more : (e : K × V) (es : List (K × V)) → order e.0 ≡ Less → AreGreater (cmp e.0) es → AreGreater order es
  greater-more e [] h g = All-nil (IsAbove order)
  greater-more e (x ∷ es) h g = All-cons (IsAbove order) x es (fits.less e.0 x.0 h (All-head (IsAbove (cmp e.0)) x es g)) (greater-more e es h (All-tail (IsAbove (cmp e.0)) x es g))

  -- the entries up to one whose key is less
  pub less-up-to : (es : List (K × V)) (at : ℕ) (d : K × V) → at < length es → IsOrdered cmp es → order (get_or es at d).0 ≡ Greater → AreLess order (take (suc at) es)
  less-up-to [] at d h s g = absurd (omega arith)
  less-up-to (x ∷ es) zero d h s g = All-cons (IsBelow order) x [] g (All-nil (IsBelow order))
  less-up-to (x ∷ es) (suc at) d h s g =
      let first : cmp x.0 (get_or es at d).0 ≡ Less = ordered-head cmp x es s at d (omega arith) in
      All-cons (IsBelow order) x (take (suc at) es) (greater-before fits x.0 (get_or es at d).0 first (λ f. absurd (cc))) (less-up-to es at d (omega arith) (ordered-tail cmp x es s) g)

  pub less-through : (es : List (K × V)) (at : ℕ) (d : K × V) → at < length es → IsOrdered cmp es → order (get_or es at d).0 ≡ Greater → AreLess order (take (at + 1) es)
  less-through es at d h s g = rw (add-one at) (less-up-to es at d h s g)

  -- the entries from one on whose key is greater
  pub greater-from : (es : List (K × V)) (at : ℕ) (d : K × V) → at < length es → IsOrdered cmp es → order (get_or es at d).0 ≡ Less → AreGreater order (drop at es)
  greater-from [] at d h s g = absurd (omega arith)
  greater-from (x ∷ es) zero d h s g = All-cons (IsAbove order) x es g (greater-more x es g (ordered-head cmp x es s))
  greater-from (x ∷ es) (suc at) d h s g = greater-from es at d (omega arith) (ordered-tail cmp x es s) g

  -- the entries before one whose key is equal
  pub less-before : (es : List (K × V)) (at : ℕ) (d : K × V) → at < length es → IsOrdered cmp es → order (get_or es at d).0 ≡ Equal → AreLess order (take at es)
  less-before [] at d h s g = absurd (omega arith)
  less-before (x ∷ es) zero d h s g = All-nil (IsBelow order)
  less-before (x ∷ es) (suc at) d h s g =
      let first : cmp x.0 (get_or es at d).0 ≡ Less = ordered-head cmp x es s at d (omega arith) in
      All-cons (IsBelow order) x (take at es) (greater-before fits x.0 (get_or es at d).0 first (λ f. absurd (cc))) (less-before es at d (omega arith) (ordered-tail cmp x es s) g)

-- two parts of entries in order
module _ {K V : Type 0} (cmp : K → K → Ordering) where
  pub ordered-left : (xs ys : List (K × V)) → IsOrdered cmp (xs ++ ys) → IsOrdered cmp xs
  ordered-left [] ys s = ordered-empty cmp
  ordered-left (x ∷ xs) ys s = ordered-cons cmp x xs (front xs ys (ordered-head cmp x (xs ++ ys) s)) (ordered-left xs ys (ordered-tail cmp x (xs ++ ys) s))
    where
      front : (us vs : List (K × V)) → AreGreater (cmp x.0) (us ++ vs) → AreGreater (cmp x.0) us
      front [] vs a = All-nil (IsAbove (cmp x.0))
      front (u ∷ us) vs a = All-cons (IsAbove (cmp x.0)) u us (All-head (IsAbove (cmp x.0)) u (us ++ vs) a) (front us vs (All-tail (IsAbove (cmp x.0)) u (us ++ vs) a))

  pub ordered-right : (xs ys : List (K × V)) → IsOrdered cmp (xs ++ ys) → IsOrdered cmp ys
  ordered-right [] ys s = s
  ordered-right (x ∷ xs) ys s = ordered-right xs ys (ordered-tail cmp x (xs ++ ys) s)
