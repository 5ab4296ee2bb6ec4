-- Lists that are on average half full, and the positions of items in them.
use Rattle.std.specs.Prelude.{◌≡◌, ℕ, ◌+◌, ◌<◌, ◌≤◌, List, [], ◌∷◌, length, get_or, map, take, ⊤}
use Rattle.std.specs.List.{flat_map}

-- each of the numbers is at least 1, and two neighbours are together at least 64
abbrev pub IsBalanced : List ℕ → Type 0
IsBalanced [] = ⊤
IsBalanced (n ∷ []) = 0 < n
IsBalanced (n ∷ m ∷ ns) = (0 < n) × (64 ≤ n + m) × IsBalanced (m ∷ ns)

-- the first of the numbers, or 64 if there are none
abbrev pub first : List ℕ → ℕ
first [] = 64
first (n ∷ ns) = n

-- the last of the numbers, or 64 if there are none
abbrev pub last : List ℕ → ℕ
last [] = 64
last (n ∷ []) = n
last (n ∷ m ∷ ns) = last (m ∷ ns)

module _ {T : Type 0} where
  -- the items of the lists, in order
  abbrev pub joined : List (List T) → List T
  joined ls = flat_map (λ l. l) ls

  -- the lengths of the lists
  abbrev pub lengths : List (List T) → List ℕ
  lengths ls = map length ls

  -- the position among all items of index `at` of the list at index `i`
  abbrev pub position : List (List T) → (i at : ℕ) → ℕ
  position ls i at = length (joined (take i ls)) + at

  -- the lists `ls` have an item at index `at` of the list at index `i`
  pub record IsAt (ls : List (List T)) (i at : ℕ) : Type 0 where
    pub list : i < length ls
    pub within : at < length (get_or ls i [])

  -- the index `at` is within the list at index `i` or at its end, or there are no lists
  pub record IsSpot (ls : List (List T)) (i at : ℕ) : Type 0 where
    pub list : length ls ≤ i → ls ≡ []
    pub within : at ≤ length (get_or ls i [])

  -- the lists `new` have the items of `ls`, and index `at` of the list at `i` in them, which has
  -- fewer than 64 items, is the position `p`
  pub record HasRoom (ls : List (List T)) (p : ℕ) (new : List (List T)) (i at : ℕ) : Type 0 where
    pub list : i < length new
    pub within : at ≤ length (get_or new i [])
    pub room : length (get_or new i []) < 64
    pub place : position new i at ≡ p
    pub same : joined new ≡ joined ls
    pub balanced : IsBalanced (lengths new)
