-- The contents of an ordered set as its users see them.
use Rattle.std.specs.Prelude.{◌≡◌, ℕ, Bool, List, [], map, length, filter, not, ⊤}
use Rattle.std.specs.BTreeSet.{insert_key}
use Rattle.std.specs.List.{fold, AllZip}
use Rattle.std.specs.List.Sorted.{IsStrictlySortedBy}
use Rattle.std.specs.Map.{keys_of}
use Rattle.std.specs.Ordering.{eq_by_cmp, is_gt}
use Rattle.std.specs.Set.{is_member}
use Rattle.std.specs.declared.cmp.Ordering.{Ordering}
use Rattle.aa_ordered.specs.Capacity.{fresh_resizes}
use Rattle.aa_ordered.specs.Entries.{OrderedView}
use Rattle.aa_ordered.specs.Iterating.{InsertsAll}

-- the view of an ordered set: its elements in ascending order, the number of elements that it can
-- always hold without another allocation, and the number of times that it moved to new blocks
pub record SetView (T : Type 0) : Type 0 where
  pub elements : List T
  pub capacity : ℕ
  pub resizes : ℕ  -- each time to two: of the leaves and of their heads

-- an empty set, which has not allocated
abbrev pub empty : {T : Type 0} → SetView T
empty = record { elements = []; capacity = 0; resizes = 0 }

module _ {T : Type 0} where
  -- the set of the keys of the map `m`
  abbrev pub set_of : {V : Type 0} → OrderedView T V → SetView T
  set_of m = record { elements = keys_of m.entries; capacity = m.capacity; resizes = m.resizes }

  -- the elements `xs` as the entries of a map, whose values say nothing
  abbrev pub pairs : List T → List (T × ⊤)
  pairs xs = map (λ x. (x, tt)) xs

  -- the map whose keys are the elements of the set `s`
  abbrev pub map_of : SetView T → OrderedView T ⊤
  map_of s = record { entries = pairs s.elements; capacity = s.capacity; resizes = s.resizes }

module _ {T : Type 0} (cmp : T → T → Ordering) where
  -- each of the elements `xs` is less than those after it
  abbrev pub IsAscending : List T → Type 0
  IsAscending xs = IsStrictlySortedBy cmp xs

  -- whether one of the elements `xs` is equal to `x`
  abbrev pub has : (xs : List T) → (x : T) → Bool
  has xs x = is_member (eq_by_cmp cmp) xs x

  -- the elements of `xs` that are less than `x`
  abbrev pub less : (xs : List T) → (x : T) → List T
  less xs x = filter (λ y. is_gt (cmp x y)) xs

  -- the elements of `xs` that are not less than `x`
  abbrev pub not_less : (xs : List T) → (x : T) → List T
  not_less xs x = filter (λ y. not (is_gt (cmp x y))) xs

  -- the elements `xs` after each of `ys` was inserted in turn, so that the first of equal ones stays
  abbrev pub insert_keys : (xs ys : List T) → List T
  insert_keys xs ys = fold (insert_key cmp) xs ys

  -- the set `u` has the elements of `s` after each of `xs` was inserted in turn, and the capacity and
  -- the resizes of a map into which they were inserted
  pub record InsertsElements (s : SetView T) (xs : List T) (u : SetView T) : Type 0 where
    pub elements : u.elements ≡ insert_keys s.elements xs
    pub growth : InsertsAll cmp (map_of s) (pairs xs) (map_of u)

  -- the set `u` has clones of the elements of `s`, inserted in turn, and the resizes of a new set for
  -- as many, where `C` relates an element to its clone
  pub record IsSetCopy (C : T → T → Type 0) (s u : SetView T) : Type 0 where
    pub clones : List T
    pub each : AllZip C s.elements clones
    pub elements : u.elements ≡ insert_keys [] clones
    pub same : IsAscending clones → u.elements ≡ clones
    pub resizes : u.resizes ≡ fresh_resizes (length s.elements)
