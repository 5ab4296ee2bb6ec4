-- Words of which some were read as elements.
use Rattle.vecscript.proofs.Common.{◌≡◌, ◌≢◌, refl, List, [], ◌∷◌, ◌++◌, append_assoc, AllZip}

module _ {W X : Type 0} (R : W → X → Type 0) where
  -- the first words were read as xs, and the others are left
  pub record HasTaken (all rest : List W) (xs : List X) : Type 0 where
    pub before : List W
    pub place : all ≡ before ++ rest
    pub each : AllZip R before xs

  pub AllZip-append : (ws vs : List W) (xs ys : List X) → AllZip R ws xs → AllZip R vs ys → AllZip R (ws ++ vs) (xs ++ ys)
  AllZip-append [] vs [] ys each more = more
  AllZip-append (w ∷ ws) vs (x ∷ xs) ys each more = (each.0, AllZip-append ws vs xs ys each.1 more)
  AllZip-append ws vs xs ys each more = absurd each

  -- some element is read of each word
  AllZip-one : (before : List W) (w : W) (rest : List W) (xs : List X) → AllZip R (before ++ w ∷ rest) xs → (x : X) × R w x
  AllZip-one [] w rest (x ∷ xs) each = (x, each.0)
  AllZip-one (v ∷ vs) w rest (x ∷ xs) each = AllZip-one vs w rest xs each.1
  AllZip-one before w rest xs each = absurd each

  -- one word more is read
  pub HasTaken-next : (all old new : List W) (w : W) (xs : List X) (x : X) → HasTaken all old xs → old ≡ w ∷ new → R w x → HasTaken all new (xs ++ x ∷ [])
  HasTaken-next all old new w xs x had next r =
      let place : all ≡ (had.before ++ w ∷ []) ++ new = rw (append_assoc, ← next) had.place in
      search (place, AllZip-append had.before (w ∷ []) xs (x ∷ []) had.each (r, tt))

  -- the word that is left first is not read
  pub HasTaken-stuck : (all old : List W) (xs : List X) → HasTaken all old xs → old ≢ [] → ((w : W) (more : List W) (x : X) → old ≡ w ∷ more → ¬ (R w x))
      → (ys : List X) → ¬ (AllZip R all ys)
  HasTaken-stuck all [] xs had some never ys each = some refl
  HasTaken-stuck all (w ∷ more) xs had some never ys each =
      let one = AllZip-one had.before w more ys (rw had.place at each) in
      never w more one.0 refl one.1
