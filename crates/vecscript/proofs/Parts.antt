-- A list cut at the elements that pass a test, taken from its front.
use Rattle.vecscript.proofs.Common.{◌≡◌, ℕ, Bool, true, false, List, [], ◌∷◌, take, drop, refl, ⊎_elim, cases_Bool, one-add, slice_split, position_or_len}

-- what precedes the first element that passes, and what begins there
abbrev pub front : (ℕ → Bool) → List ℕ → List ℕ
front p xs = take (position_or_len p xs) xs

abbrev pub following : (ℕ → Bool) → List ℕ → List ℕ
following p xs = drop (position_or_len p xs) xs

-- the parts after that element
abbrev pub more_parts : (ℕ → Bool) → List ℕ → List (List ℕ)
more_parts p [] = []
more_parts p (x ∷ xs) = slice_split p xs

pub slice_split-front : (p : ℕ → Bool) (xs : List ℕ)
    → slice_split p xs ≡ front p xs ∷ more_parts p (following p xs)
slice_split-front p [] = refl
slice_split-front p (x ∷ xs) =
    ⊎_elim (λ (e : p x ≡ true). rw e refl) (λ (e : p x ≡ false). rw (e, slice_split-front p xs, one-add) refl) (cases_Bool (p x))
