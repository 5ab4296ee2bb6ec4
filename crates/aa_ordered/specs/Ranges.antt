-- Parts of a sorted map, cut before or after a key.
use Rattle.std.specs.Prelude.{◌≡◌, Bool, true, false, not, List, [], ◌∷◌, All, filter, flat_map}
use Rattle.std.specs.Ordering.{match_ordering}
use Rattle.std.specs.declared.cmp.Ordering.{Ordering}

module _ {K V : Type 0} (cmp : K → K → Ordering) where
  -- the entry `e` is before a cut at the key `k`, which an equal key is if the cut is `after` it
  abbrev pub is_before : (k : K) → (after : Bool) → K × V → Bool
  is_before k after e = match_ordering (cmp k e.0) false after true

  -- the entries of `es` before that cut
  abbrev pub entries_before : (k : K) → (after : Bool) → List (K × V) → List (K × V)
  entries_before k after es = filter (is_before k after) es

  -- the entries of `es` after that cut
  abbrev pub entries_after : (k : K) → (after : Bool) → List (K × V) → List (K × V)
  entries_after k after es = filter (λ e. not (is_before k after e)) es

module _ {X : Type 0} where
  -- the items of the lists `ls`, one list after another
  abbrev pub items_of : List (List X) → List X
  items_of ls = flat_map (λ l. l) ls

module _ {X : Type 0} (test : X → Bool) where
  -- no item of `xs` passes the test after one that fails it
  abbrev pub IsPrefixTest : List X → Type 0
  IsPrefixTest [] = Unit {0}
  IsPrefixTest (x ∷ xs) = (test x ≡ false → All (λ y. test y ≡ false) xs) × IsPrefixTest xs

  -- the list has a first item, for which the test returns `b`
  abbrev pub Begins : (b : Bool) → List X → Type 0
  Begins b [] = ⊥
  Begins b (x ∷ xs) = test x ≡ b
