-- The results of calls that clone elements.
use Rattle.std.specs.Prelude.{◌≡◌, ℕ, ◌<◌, List, length, All, Option}
use Rattle.std.specs.List.{AllZip}
use Rattle.aa_raw.specs.Places.{IsRun, run}

-- every clone equals its source. This is a condition on the type of the elements, under which the
-- lists that calls leave are known
abbrev pub ClonesAreEqual : {T : Type 0} → (T → T → Type 0) → Type 0
ClonesAreEqual {T} is_clone = (x y : T) → is_clone x y → y ≡ x

-- no clone of an element of `xs` can fail, and clones of them all, of `size` bytes each, do not
-- allocate
abbrev pub ClonesCannotFail : {X : Type 0} → (infallible : X → Type 0) → (size : ℕ) → List X
    → Type 0
ClonesCannotFail infallible size xs = All infallible xs × (0 < length xs → size ≡ 0)

-- the first of `places` hold a clone of each of `xs`
pub record HoldsClones {X : Type 0} (is_clone : X → X → Type 0) (xs : List X)
    (places : List (Option X)) : Type 0 where
  pub filled : IsRun places 0 (length xs)
  pub each : AllZip is_clone xs (run places 0 (length xs))
