-- An item that is carried through a ring: each item on its way is replaced by the carried one, and carried on.
use Rattle.std.proofs.Common.{◌≡◌, ℕ, zero, suc, ◌+◌, ◌-◌, ◌<◌, ◌≤◌, List, [], ◌∷◌, ◌++◌, length, Some, refl, sym, ap, ap₂, ◌∙◌, arith, length-set}
use Rattle.std.specs.Prelude.{insert, remove, slice_get, slice_set}
use Rattle.std.proofs.lemmas.Bool.Decides.{nat_tests}
use Rattle.std.proofs.lemmas.List.{drop_all, take_all}

module _ {X : Type 0} where
  on : (xs : List X) (k : ℕ) (c x : X) → slice_get xs k ≡ Some x → insert (slice_set xs k c) (suc k) x ≡ insert xs k c
  on [] k c x e = cc
  on (y ∷ xs) zero c x e = cc
  on (y ∷ xs) (suc k) c x e = ap (λ ys. y ∷ ys) (on xs k c x e)

  back : (xs : List X) (k : ℕ) (c x : X) → slice_get xs k ≡ Some x → insert (slice_set xs k c) k x ≡ insert xs (suc k) c
  back [] k c x e = cc
  back (y ∷ xs) zero c x e = cc
  back (y ∷ xs) (suc k) c x e = ap (λ ys. y ∷ ys) (back xs k c x e)

  -- the value at k is carried on, after the carried one replaced it
  pub carry : (xs : List X) (k : ℕ) (c x : X) → slice_get xs k ≡ Some x → insert (slice_set xs k c) (k + 1) x ≡ insert xs k c
  carry xs k c x e = let next : k + 1 ≡ suc k = omega arith in ap (λ i. insert (slice_set xs k c) i x) next ∙ on xs k c x e

  -- the same, back
  pub carry_down : (xs : List X) (k : ℕ) (c x : X) → 0 < k → slice_get xs (k - 1) ≡ Some x → insert (slice_set xs (k - 1) c) (k - 1) x ≡ insert xs k c
  carry_down xs k c x some e = let next : suc (k - 1) ≡ k = omega arith in back xs (k - 1) c x e ∙ ap (λ i. insert xs i c) next

  pub insert-end : (xs : List X) (k : ℕ) (x : X) → length xs ≤ k → insert xs k x ≡ xs ++ x ∷ []
  insert-end xs k x h = ap₂ (λ p q. p ++ x ∷ q) (take_all k xs h) (drop_all k xs h)

  pub get-insert : (xs : List X) (k : ℕ) (x : X) → k ≤ length xs → slice_get (insert xs k x) k ≡ Some x
  get-insert [] k x h = let e : k ≡ 0 = omega arith in rw e
  get-insert (y ∷ xs) zero x h = refl
  get-insert (y ∷ xs) (suc k) x h = get-insert xs k x (omega arith)

  pub remove-insert : (xs : List X) (k : ℕ) (x : X) → k ≤ length xs → remove (insert xs k x) k ≡ xs
  remove-insert [] k x h = let e : k ≡ 0 = omega arith in rw e
  remove-insert (y ∷ xs) zero x h = refl
  remove-insert (y ∷ xs) (suc k) x h = ap (λ ys. y ∷ ys) (remove-insert xs k x (omega arith))

pub ruleset carried = (nat_tests, carry, carry_down, insert-end, get-insert, remove-insert, length-set)
