-- One step of moving the entries of a map into another.
use Rattle.std.proofs.Common.{◌≡◌, ◌+◌, ◌≤◌, ℕ, List, [], ◌∷◌, None, Some, refl, arith, length, drop, sym, ap}
use Rattle.std.specs.Prelude.{slice_get}
use Rattle.std.specs.declared.cmp.Ordering.{Ordering}
use Rattle.std.specs.declared.cmp.Ordering.TheVariants.{Less, Equal, Greater}
use Rattle.std.specs.Ordering.{match_ordering}
use Rattle.std.specs.BTreeMap.{insert_entry}
use Rattle.aa_ordered.specs.Iterating.{insert_all}

pub length-inserted : {K V : Type 0} (cmp : K → K → Ordering) (es : List (K × V)) (k : K) (v : V) → length (insert_entry cmp es k v) ≤ length es + 1
length-inserted cmp [] k v = omega arith
length-inserted cmp (e ∷ es) k v = by (cmp k e.0) (length-inserted cmp es k v)
  where
    by : (r : Ordering) → length (insert_entry cmp es k v) ≤ length es + 1 → length (match_ordering r ((k, v) ∷ e ∷ es) ((e.0, v) ∷ es) (e ∷ insert_entry cmp es k v)) ≤ length (e ∷ es) + 1
    by Less h = omega arith
    by Equal h = omega arith
    by Greater h = omega (arith, h)

pub none-left : {X : Type 0} (xs : List X) → None ≡ slice_get xs 0 → xs ≡ []
none-left [] h = refl
none-left (x ∷ xs) h = absurd (cc)

pub one-left : {X : Type 0} (xs : List X) (x : X) → Some x ≡ slice_get xs 0 → xs ≡ x ∷ drop 1 xs
one-left [] x h = absurd (cc)
one-left (y ∷ xs) x h = let same : y ≡ x = cc in ap (λ z. z ∷ xs) same

module _ {K V : Type 0} (cmp : K → K → Ordering) (es xs : List (K × V)) (k : K) (v : V) (one : Some (k, v) ≡ slice_get xs 0) where
  pub step-all : insert_all cmp (insert_entry cmp es k v) (drop 1 xs) ≡ insert_all cmp es xs
  step-all = sym (ap (insert_all cmp es) (one-left xs (k, v) one))

  pub step-shorter : length (drop 1 xs) + 1 ≡ length xs
  step-shorter = let e = ap length (one-left xs (k, v) one) in omega (arith, e)

  pub step-room : (c : ℕ) → length es + length xs ≤ c → length (insert_entry cmp es k v) + length (drop 1 xs) ≤ c
  step-room c h = omega (arith, h, step-shorter, length-inserted cmp es k v)
