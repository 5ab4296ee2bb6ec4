-- The contents of a set as its users see them.
use Rattle.std.specs.Prelude.{◌≡◌, ℕ, ◌-◌, ◌≤◌, ◌&&◌, Bool, List, [], ◌∷◌, map, length, count_by, if◌then◌else◌, IsPermutation}
use Rattle.std.specs.List.{fold, list_all, AllZip}
use Rattle.std.specs.Set.{is_member, IsUnion}
use Rattle.aa_table.specs.Contents.{fresh_capacity, fresh_resizes, reserved_capacity, reserved_resizes, GrowsInTurn, TableView}

-- the view of a set: its elements in the order of `iter`, the number of elements that it can hold
-- without another allocation, the number of times that it moved to new blocks, and the builder of
-- its hashers
pub record SetView (T S : Type 0) : Type 0 where
  pub elements : List T
  pub capacity : ℕ
  pub resizes : ℕ  -- each time to three: of the elements, of the tags and of the overflow bytes
  pub builder : S

-- the set of the keys of the table `t`
abbrev pub set_of : {T V S : Type 0} → TableView T V S → SetView T S
set_of t =
    record {
      elements = map (λ e. e.0) t.entries;
      capacity = t.capacity;
      resizes = t.resizes;
      builder = t.builder;
    }

-- no two of the elements `xs` are equal
abbrev pub AreDistinct : {T : Type 0} → (T → T → Bool) → List T → Type 0
AreDistinct {T} eq xs = (x : T) → count_by (eq x) xs ≤ 1

-- each of the elements `xs` is equal to one of `ys`, and the other way round
abbrev pub same_elements : {T : Type 0} → (T → T → Bool) → (xs ys : List T) → Bool
same_elements eq xs ys = list_all (is_member eq ys) xs && list_all (is_member eq xs) ys

module _ {T S : Type 0} where
  -- the set `s` has spare capacity for `k` new elements
  abbrev pub SetHasRoom : SetView T S → (k : ℕ) → Type 0
  SetHasRoom s k = k ≤ s.capacity - length s.elements

  -- the capacity of the set `s` after it reserved `k` new elements
  abbrev pub set_capacity_for : SetView T S → (k : ℕ) → ℕ
  set_capacity_for s k = reserved_capacity s.capacity (length s.elements) k

  -- the number of resizes of the set `s` after it reserved `k` new elements
  abbrev pub set_resizes_for : SetView T S → (k : ℕ) → ℕ
  set_resizes_for s k = reserved_resizes s.resizes s.capacity (length s.elements) k

-- an empty set with the builder `b`, which has not allocated
abbrev pub no_elements : {T S : Type 0} → S → SetView T S
no_elements b = record { elements = []; capacity = 0; resizes = 0; builder = b }

module _ {T : Type 0} (eq : T → T → Bool) where
  -- the elements `xs` after `x` was inserted, if none of them is equal to it
  abbrev pub with_element : List T → T → List T
  with_element xs x = if is_member eq xs x then xs else x ∷ xs

  -- the elements `new` are `es` after each of `xs` was inserted in turn, in any order
  pub record HasElements (es xs new : List T) : Type 0 where
    pub elements : IsPermutation (fold with_element es xs) new
    pub members : IsUnion eq es xs new

  -- the set `u` has the elements of `s` after each of `xs` was inserted in turn, and the builder of `s`
  pub record InsertsElements {S : Type 0} (s : SetView T S) (xs : List T) (u : SetView T S)
      : Type 0 where
    pub elements : HasElements s.elements xs u.elements
    pub growth : GrowsInTurn s.capacity s.resizes u.capacity u.resizes (length u.elements)
    pub builder : u.builder ≡ s.builder

  -- the set `u` has clones of the elements of `s`, where equal clones are one, the blocks of a new set
  -- for as many, and a clone of its builder, where `C` and `B` relate an element and a builder to
  -- its clone
  pub record IsSetCopy {S : Type 0} (C : T → T → Type 0) (B : S → S → Type 0) (s u : SetView T S)
      : Type 0 where
    pub clones : List T
    pub each : AllZip C s.elements clones
    pub elements : IsUnion eq [] clones u.elements
    pub capacity : u.capacity ≡ fresh_capacity (length s.elements)
    pub resizes : u.resizes ≡ fresh_resizes (length s.elements)
    pub builder : B s.builder u.builder
