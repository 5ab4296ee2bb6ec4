-- Neighbours in the deduplicated list were arguments of one call, and differ.
use Rattle.allocator_api2.proofs.Common.{Bool, ChainsFrom, LeavesNoRepeats, List, NeighboursDiffer, TestsEquality, [], ap, false, subst, sym, true, ◌∙◌, ◌∷◌, ◌≡◌}

module _ {T S : Type 0} (eq : T → T → Bool) (symmetric : (x y : T) → eq x y ≡ eq y x)
    (Repeats : S → T → T → Bool → S → T → T → Type 0) (tests : TestsEquality eq Repeats) where
  -- the last one kept comes first of what is left, as it was
  first_left : (s t : S) (l : T) (xs left : List T) (results : List Bool)
      → ChainsFrom Repeats s l xs results t left → (others : List T) × (left ≡ l ∷ others)
      × NeighboursDiffer eq (l ∷ others)
  first_left s t l [] left [] c = ([], c.1, tt)
  first_left s t l (x ∷ xs) left (true ∷ results) c =
      let tested = tests s c.0 x l c.1 c.2 true c.3 in
      first_left c.0 t l xs left results
      (subst (λ k. ChainsFrom Repeats c.0 k xs results t left) tested.2 c.4)
  first_left s t l (x ∷ xs) left (false ∷ results) c =
      let tested = tests s c.0 x l c.1 c.2 false c.4 in
      let rest = first_left c.0 t x xs c.3 results
      (subst (λ y. ChainsFrom Repeats c.0 y xs results t c.3) tested.1 c.5) in
      let differ : eq x l ≡ false = sym tested.0 in (
        x ∷ rest.0,
        c.6 ∙ ap (λ k. k ∷ c.3) tested.2 ∙ ap (λ ys. l ∷ ys) rest.1,
        (symmetric l x ∙ differ, differ, rest.2),
      )
  first_left s t l xs left results c = absurd c

pub leaves_no_repeats : {T S : Type 0} (eq : T → T → Bool) → ((x y : T) → eq x y ≡ eq y x)
    → (Repeats : S → T → T → Bool → S → T → T → Type 0) → LeavesNoRepeats eq Repeats
leaves_no_repeats eq symmetric Repeats tests s t [] left results d =
    subst (NeighboursDiffer eq) (sym d.2) tt
leaves_no_repeats eq symmetric Repeats tests s t (x ∷ xs) left results d =
    let r = first_left eq symmetric Repeats tests s t x xs left results d in
    subst (NeighboursDiffer eq) (sym r.1) r.2
