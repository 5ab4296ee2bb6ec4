-- The list among others that a key belongs to.
use Rattle.std.proofs.Common.{◌≡◌, ◌+◌, ◌≤◌, ◌<◌, ℕ, suc, zero, List, [], ◌∷◌, refl, arith, length, take, drop, get_or, sym, ap, subst, ◌∙◌, append-nil}
use Rattle.std.specs.declared.cmp.Ordering.{Ordering}
use Rattle.std.specs.declared.cmp.Ordering.TheVariants.{Less, Equal, Greater}
use Rattle.std.proofs.lemmas.List.{drop_all, drop_more}
use Rattle.std.proofs.lemmas.List.Elements.{All-nil, All-take}
use Rattle.aa_ordered.specs.Balance.{joined, lengths, position, IsBalanced, IsSpot}
use Rattle.aa_ordered.specs.Entries.{AreGreater, AreLess, IsFound, IsGap, IsOrdered}
use Rattle.aa_ordered.specs.Places.{HasPlace}
use Rattle.aa_ordered.proofs.Balance.{balanced-head, balanced-tail}
use Rattle.aa_ordered.proofs.Flat.{drop-middle, joined-one, position-within, read-joined, take-middle}
use Rattle.aa_ordered.proofs.Found.{found-middle, gap-middle}
use Rattle.aa_ordered.proofs.Order.{greater-from, less-before, less-up-to, ordered-left, ordered-right, FitsOrder, IsAbove, IsBelow}

pub some-each : {T : Type 0} (ls : List (List T)) (i : ℕ) → IsBalanced (lengths ls) → i < length ls → 0 < length (get_or ls i [])
some-each [] i b h = absurd (omega arith)
some-each (l ∷ ls) zero b h = balanced-head (length l) (lengths ls) b
some-each (l ∷ ls) (suc i) b h = some-each ls i (balanced-tail (length l) (lengths ls) b) (omega arith)

module _ {K V : Type 0} {cmp : K → K → Ordering} {order : K → Ordering} (fits : FitsOrder cmp order) (ls : List (List (K × V))) (s : IsOrdered cmp (joined ls)) (i : ℕ) (h : i < length ls) where
  before-list : take (position ls i 0) (joined ls) ≡ joined (take i ls)
  before-list = rw (joined-one ls i h) (take-middle (joined (take i ls)) (get_or ls i []) (joined (drop (i + 1) ls)) 0 (omega arith) ∙ append-nil (joined (take i ls)))

  from-list : drop (position ls i 0) (joined ls) ≡ joined (drop i ls)
  from-list = rw (joined-one ls i h, drop_more ls i [] h) (drop-middle (joined (take i ls)) (get_or ls i []) (joined (drop (i + 1) ls)) 0 (omega arith))

  module _ (n : 0 < length (get_or ls i [])) (d : K × V) where
    inside : position ls i 0 < length (joined ls)
    inside = position-within ls i h 0 n

    read : get_or (joined ls) (position ls i 0) d ≡ get_or (get_or ls i []) 0 d
    read = read-joined ls i h 0 d n

    pub less-equal : order (get_or (get_or ls i []) 0 d).0 ≡ Equal → AreLess order (joined (take i ls))
    less-equal e = subst (AreLess order) before-list (less-before fits (joined ls) (position ls i 0) d inside s (subst (λ (x : K × V). order x.0 ≡ Equal) (sym read) e))

    pub less-greater : order (get_or (get_or ls i []) 0 d).0 ≡ Greater → AreLess order (joined (take i ls))
    less-greater e = subst (AreLess order) before-list (part (position ls i 0) (less-up-to fits (joined ls) (position ls i 0) d inside s (subst (λ (x : K × V). order x.0 ≡ Greater) (sym read) e)))
      where
        part : (n : ℕ) → AreLess order (take (suc n) (joined ls)) → AreLess order (take n (joined ls))
        part n a = shorter n (joined ls) a
          where
            shorter : (m : ℕ) (xs : List (K × V)) → AreLess order (take (suc m) xs) → AreLess order (take m xs)
            shorter m xs a = subst (AreLess order) (take-twice m xs) (All-take (IsBelow order) m (take (suc m) xs) a)
              where
                take-twice : (m : ℕ) (xs : List (K × V)) → take m (take (suc m) xs) ≡ take m xs
                take-twice zero xs = refl
                take-twice (suc m) [] = refl
                take-twice (suc m) (x ∷ xs) = ap (λ ys. x ∷ ys) (take-twice m xs)

    pub greater-less : order (get_or (get_or ls i []) 0 d).0 ≡ Less → AreGreater order (joined (drop i ls))
    greater-less e = subst (AreGreater order) from-list (greater-from fits (joined ls) (position ls i 0) d inside s (subst (λ (x : K × V). order x.0 ≡ Less) (sym read) e))

  -- the entries of one list
  pub ordered-list : IsOrdered cmp (get_or ls i [])
  ordered-list = ordered-left cmp (get_or ls i []) (joined (drop (i + 1) ls)) (ordered-right cmp (joined (take i ls)) _ (subst (IsOrdered cmp) (joined-one ls i h) s))

  module _ (p : HasPlace order ls i) (at : ℕ) where
    pub found-joined : IsFound order (get_or ls i []) at → IsFound order (joined ls) (position ls i at)
    found-joined f = rw (joined-one ls i h) (found-middle order (joined (take i ls)) (get_or ls i []) (joined (drop (i + 1) ls)) at p.before f)

    pub gap-joined : IsGap order (get_or ls i []) at → IsGap order (joined ls) (position ls i at)
    gap-joined f = rw (joined-one ls i h) (gap-middle order (joined (take i ls)) (get_or ls i []) (joined (drop (i + 1) ls)) at p.before p.after f)

-- no lists
module _ {K V : Type 0} (order : K → Ordering) where
  pub gap-none : (ls : List (List (K × V))) (i : ℕ) → ls ≡ [] → IsGap order (joined ls) (position ls i 0)
  gap-none ls zero e = rw e (record { within = omega arith; before = All-nil (IsBelow order); after = All-nil (IsAbove order) })
  gap-none ls (suc i) e = rw e (record { within = omega arith; before = All-nil (IsBelow order); after = All-nil (IsAbove order) })

  pub greater-past : (ls : List (List (K × V))) (i : ℕ) → length ls ≤ i → AreGreater order (joined (drop i ls))
  greater-past ls i h = rw (drop_all i ls h) (All-nil (IsAbove order))

  pub less-none : (ls : List (List (K × V))) → AreLess order (joined (take 0 ls))
  less-none ls = All-nil (IsBelow order)

pub spot-none : {T : Type 0} (ls : List (List T)) (i : ℕ) → ls ≡ [] → IsSpot ls i 0
spot-none ls i e = record { list = λ h. e; within = omega arith }
