-- The invariant of the fields of an iterator by value over the items of an arena, and their view.
use Rattle.std.specs.Prelude.{◌≡◌, ◌⊎◌, ℕ, ◌+◌, ◌*◌, ◌<◌, ◌≤◌, List, ◌∷◌, ◌++◌, length, Option}
use Rattle.std.specs.List.{All, flat_map}
use Rattle.allocator_api2.specs.Places.{IsRun, run}
use Rattle.aa_ordered.specs.Arena.{heads_of, list_of, IsHeld}
use Rattle.aa_ordered.specs.declared.leaves.Head.{Head}
use Rattle.aa_ordered.specs.declared.leaves.taking.Part.{Part}

-- the parts `p` and `q` have no place in common
abbrev pub AreApart : (p q : Part) → Type 0
AreApart p q = (p.at + p.len ≤ q.at) ⊎ (q.at + q.len ≤ p.at)

-- the part `p` has no place in the leaf of the head `h`
abbrev pub IsOutside : Part → Head → Type 0
IsOutside p h = (p.at + p.len ≤ h.leaf * 64) ⊎ ((h.leaf + 1) * 64 ≤ p.at)

-- of the heads `hs`, the first whose list is not empty is `h`, and `rest` are those after it
pub record StartsWith (hs : List Head) (h : Head) (rest : List Head) : Type 0 where
  pub empty : List Head
  pub all : hs ≡ empty ++ h ∷ rest
  pub none : All (λ g. g.len ≡ 0) empty
  pub some : 0 < h.len

-- of the heads `hs`, the last whose list is not empty is `h`, and `rest` are those before it
pub record EndsWith (hs : List Head) (h : Head) (rest : List Head) : Type 0 where
  pub empty : List Head
  pub all : hs ≡ rest ++ h ∷ empty
  pub none : All (λ g. g.len ≡ 0) empty
  pub some : 0 < h.len

module _ {T : Type 0} where
  -- the items of the part `front`, of the lists of the heads `hs`, and of the part `back`
  abbrev pub rest_of : List (Option T) → (front : Part) → List Head → (back : Part) → List T
  rest_of cs front hs back =
      run cs front.at front.len ++ (flat_map (list_of cs) hs ++ run cs back.at back.len)

  -- the places of two parts and of the lists of the heads `hs` are filled, and none of them is a
  -- place of two
  pub record AreParts (cs : List (Option T)) (front : Part) (hs : List Head)
      (back : Part) : Type 0 where
    pub first : IsRun cs front.at front.len
    pub lists : All (IsHeld cs) hs
    pub last : IsRun cs back.at back.len
    pub once : (leaf : ℕ) → heads_of leaf hs ≤ 1
    pub before : All (IsOutside front) hs
    pub after : All (IsOutside back) hs
    pub apart : AreApart front back

  -- an iterator over these parts has `left` more items
  abbrev pub IsRest : List (Option T) → (front : Part) → List Head → (back : Part) → (left : ℕ)
      → Type 0
  IsRest cs front hs back left =
      AreParts cs front hs back × (left ≡ length (rest_of cs front hs back))
