-- An item at an end that a closure tests, and that is then removed or stays.
use Rattle.std.proofs.Common.{inr, ◌≡◌, ℕ, zero, suc, ◌+◌, Bool, true, false, List, [], ◌∷◌, ◌++◌, length, take, drop, get_or, Option, None, Some, refl, sym, ap, ◌∙◌, arith, length-append, MutBor}
use Rattle.std.specs.Prelude.{MatchOption, slice_get, slice_set}
use Rattle.std.specs.Fn.{FnOnceReturnsAtMut, Once}
use Rattle.std.proofs.lemmas.List.{drop_at, take_at}
use Rattle.aa_ring.specs.Popping.{PopsFirstIf, PopsLastIf}
use Rattle.aa_ring.specs.Ringed.{Ringed, with_items, with_written}

module _ {X : Type 0} where
  read-first : (xs : List X) (x : X) → slice_get xs 0 ≡ Some x → xs ≡ x ∷ drop 1 xs
  read-first [] x e = cc
  read-first (z ∷ xs) x e = cc

  set-first : (xs : List X) (x y : X) → slice_get xs 0 ≡ Some x → slice_set xs 0 y ≡ y ∷ drop 1 xs
  set-first [] x y e = cc
  set-first (z ∷ xs) x y e = refl

  read-last : (xs : List X) (i : ℕ) (x : X) → i + 1 ≡ length xs → slice_get xs i ≡ Some x → xs ≡ take i xs ++ x ∷ []
  read-last [] i x n e = absurd (omega (arith, n))
  read-last (z ∷ []) zero x n e = cc
  read-last (z ∷ w ∷ xs) zero x n e = absurd (omega (arith, n))
  read-last (z ∷ xs) (suc i) x n e = ap (λ l. z ∷ l) (read-last xs i x (omega (arith, n)) e)

  set-last : (xs : List X) (i : ℕ) (y : X) → i + 1 ≡ length xs → slice_set xs i y ≡ take i xs ++ y ∷ []
  set-last [] i y n = absurd (omega (arith, n))
  set-last (z ∷ []) zero y n = refl
  set-last (z ∷ w ∷ xs) zero y n = absurd (omega (arith, n))
  set-last (z ∷ xs) (suc i) y n = ap (λ l. z ∷ l) (set-last xs i y (omega (arith, n)))

  same-front : (xs ys : List X) (x y : X) → xs ++ x ∷ [] ≡ ys ++ y ∷ [] → xs ≡ ys
  same-front xs ys x y e =
      let n : length xs ≡ length ys = omega (arith, ap length e, length-append xs (x ∷ []), length-append ys (y ∷ [])) in
      sym (take_at xs (x ∷ []) (length ys) n) ∙ ap (take (length ys)) e ∙ take_at ys (y ∷ []) (length ys) refl

  same-last : (xs ys : List X) (x y : X) → xs ++ x ∷ [] ≡ ys ++ y ∷ [] → x ≡ y
  same-last xs ys x y e =
      let n : length xs ≡ length ys = omega (arith, ap length e, length-append xs (x ∷ []), length-append ys (y ∷ [])) in
      ap (λ l. get_or l 0 x) (sym (drop_at xs (x ∷ []) (length ys) n) ∙ ap (drop (length ys)) e ∙ drop_at ys (y ∷ []) (length ys) refl)

module _ {F T A : Type 0} (calls : Once F (MutBor T × Unit {0}) (Bool × (MutBor T × Unit {0}))) (f : F) (old : Ringed T A) (x y : T) where
  -- the item stays, as it was left
  pub first-stays : slice_get old.items 0 ≡ Some x → FnOnceReturnsAtMut calls f x false y → PopsFirstIf calls f old None (with_items old (slice_set old.items 0 y))
  first-stays at c = inr (record { item = x; others = drop 1 old.items; items = read-first old.items x at; left = y; popped = (c, ap (with_items old) (set-first old.items x y at)) })

  pub last-stays : (i : ℕ) → i + 1 ≡ length old.items → slice_get old.items i ≡ Some x → FnOnceReturnsAtMut calls f x false y → PopsLastIf calls f old None (with_items old (slice_set old.items i y))
  last-stays i n at c = inr (record { item = x; others = take i old.items; items = read-last old.items i x n at; left = y; popped = (c, ap (with_items old) (set-last old.items i y n)) })

  -- or is removed
  pub first-goes : (r : Option T) (new : Ringed T A) → slice_get old.items 0 ≡ Some x → FnOnceReturnsAtMut calls f x true y
      → MatchOption r ((slice_set old.items 0 y ≡ []) × (new.items ≡ [])) (λ z. slice_set old.items 0 y ≡ z ∷ new.items) → new ≡ with_written old new.items 0 → PopsFirstIf calls f old r new
  first-goes None new at c none kept = absurd (omega (arith, ap length none.0, ap length (set-first old.items x y at)))
  first-goes (Some z) new at c taken kept =
      let both : z ∷ new.items ≡ y ∷ drop 1 old.items = sym taken ∙ set-first old.items x y at in
      inr (record { item = x; others = new.items; items = read-first old.items x at ∙ sym (ap (λ l. x ∷ drop 1 l) both); left = y; popped = (c, ap (λ l. get_or l 0 z) both, kept) })

  pub last-goes : (i : ℕ) (r : Option T) (new : Ringed T A) → i + 1 ≡ length old.items → slice_get old.items i ≡ Some x → FnOnceReturnsAtMut calls f x true y
      → MatchOption r ((slice_set old.items i y ≡ []) × (new.items ≡ [])) (λ z. slice_set old.items i y ≡ new.items ++ z ∷ []) → new ≡ with_written old new.items 0 → PopsLastIf calls f old r new
  last-goes i None new n at c none kept = absurd (omega (arith, ap length none.0, ap length (set-last old.items i y n), length-append (take i old.items) (y ∷ [])))
  last-goes i (Some z) new n at c taken kept =
      let both : new.items ++ z ∷ [] ≡ take i old.items ++ y ∷ [] = sym taken ∙ set-last old.items i y n in
      inr (record {
        item = x;
        others = new.items;
        items = read-last old.items i x n at ∙ sym (ap (λ l. l ++ x ∷ []) (same-front new.items (take i old.items) z y both));
        left = y;
        popped = (c, same-last new.items (take i old.items) z y both, kept);
      })
