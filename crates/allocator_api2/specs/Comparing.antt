-- Functions of vectors that return the same as functions of the slices of their elements.
use Rattle.std.specs.Prelude.{◌≡◌, Bool, List}
use Rattle.std.specs.Borrow.{Bor}
use Rattle.std.specs.Ordering.{eq_by_cmp}
use Rattle.std.specs.declared.cmp.Ordering.{Ordering}
use Rattle.aa_vec.specs.Vector.{Vector}

module _ {T A X : Type 0} where
  -- `of_vector` returns for a vector what `of_slice` returns for the slice of its elements
  abbrev pub IsThatOfTheSlice : (Vector T A → X) → (Bor (List T) → X) → Type 0
  IsThatOfTheSlice of_vector of_slice =
      (v : Vector T A) (s : Bor (List T)) → s.now ≡ v.items → of_vector v ≡ of_slice s

  -- `of_vectors` returns for two vectors what `of_slices` returns for the slices of their elements
  abbrev pub IsThatOfTheSlices : (Vector T A → Vector T A → X) → (Bor (List T) → Bor (List T) → X)
      → Type 0
  IsThatOfTheSlices of_vectors of_slices =
      (v w : Vector T A) (s t : Bor (List T)) → s.now ≡ v.items → t.now ≡ w.items
      → of_vectors v w ≡ of_slices s t

-- two values are equal by `eq` exactly if `cmp` orders them as equal
abbrev pub OrderAgrees : {X : Type 0} → (X → X → Bool) → (X → X → Ordering) → Type 0
OrderAgrees {X} eq cmp = (x y : X) → eq x y ≡ eq_by_cmp cmp x y
