-- A list many times over.
use Rattle.allocator_api2.proofs.Common.{Doubling, Holds, IsMadeWithin, IsNew, List, SameBlock-refl, Vector, WritesAtMost, [], ap, append_assoc, arith, length, length-append, repeat, suc, suc-mul, take, take-append-le, take_all, zero, ℕ, ◌*◌, ◌++◌, ◌+◌, ◌-◌, ◌∙◌, ◌≡◌, ◌≤◌}

module _ {T : Type 0} (xs : List T) where
  pub length-repeat : (n : ℕ) → length (repeat n xs) ≡ n * length xs
  length-repeat zero = omega arith
  length-repeat (suc n) =
      omega (arith, length-append xs (repeat n xs), length-repeat n, suc-mul n (length xs))

  pub repeat-add : (m k : ℕ) → repeat m xs ++ repeat k xs ≡ repeat (m + k) xs
  repeat-add zero k = let e : k ≡ 0 + k = omega arith in ap (λ n. repeat n xs) e
  repeat-add (suc m) k = let e : suc (m + k) ≡ suc m + k = omega arith in
      append_assoc xs (repeat m xs) (repeat k xs) ∙ ap (λ l. xs ++ l) (repeat-add m k)
      ∙ ap (λ n. repeat n xs) e

  -- the first m times of n
  pub take-repeat : (m n : ℕ) → m ≤ n → take (m * length xs) (repeat n xs) ≡ repeat m xs
  take-repeat m n h =
      let e : n ≡ m + (n - m) = omega arith in
      grind (arith, e, length-repeat, repeat-add m (n - m), take-append-le, take_all)

module _ {T A : Type 0} where
  -- no times, in an empty vector
  pub Holds-none : (n : ℕ) (xs : List T) (v : Vector T A) → n ≡ 0 → v.items ≡ []
      → Holds v (repeat n xs) v
  Holds-none n xs v z e = rw z (record { items = e; block = SameBlock-refl v })

  pub Writes-none : (n : ℕ) (xs : List T) (v : Vector T A) → n ≡ 0
      → WritesAtMost v (n * length xs) v
  Writes-none n xs v z = rw z (record { written = omega arith; runs = omega arith })

  -- the items of a new vector with capacity for just these
  pub IsMadeWithin-repeated : (size n : ℕ) (xs : List T) (a : A) (new v : Vector T A)
      → IsNew size (n * length xs) a new
      → Holds new (repeat n xs) v
      → WritesAtMost new (n * length xs) v
      → IsMadeWithin size Doubling (repeat n xs) v
  IsMadeWithin-repeated size n xs a new v made held with_written = grind (arith, length-repeat xs n)

pub ruleset repeated =
    (length-repeat, repeat-add, take-repeat, Holds-none, Writes-none, IsMadeWithin-repeated)
