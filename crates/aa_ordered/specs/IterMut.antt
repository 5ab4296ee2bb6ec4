-- An iterator that lends the values of a map, as contracts see it.
use Rattle.std.specs.Prelude.{◌≡◌, ◌≢◌, ℕ, ◌+◌, ◌-◌, ◌*◌, ◌^◌, ◌<◌, ◌≤◌, All, List, Option, ◌++◌, length, map, take}
use Rattle.std.specs.Map.{keys_of, values_of}
use base.Fml.{GName}
use Rattle.allocator_api2.specs.Places.{IsRun, run}
use Rattle.aa_ordered.specs.Arena.{heads_of, list_of, IsArena, IsHeld}
use Rattle.aa_ordered.specs.Capacity.{capacity_of}
use Rattle.aa_ordered.specs.Entries.{OrderedView}
use Rattle.aa_ordered.specs.IterLends.{with_values_of}
use Rattle.aa_ordered.specs.Ranges.{items_of}
use Rattle.aa_ordered.specs.declared.leaves.Head.{Head}

module _ {K V : Type 0} where
  -- the lists of the first `used` of the heads `hs`, in the places `cs`, have the entries of the
  -- map `m`
  pub record IsLent (cs : List (Option (K × V))) (hs : List Head) (used : ℕ) (m : OrderedView K V)
      : Type 0 where
    pub arena : IsArena cs hs used
    pub entries : items_of (map (list_of cs) (take used hs)) ≡ m.entries
    pub room : capacity_of (length hs) ≡ m.capacity

  -- whatever values are written to the entries `es`, their keys and their number do not change
  abbrev pub KeepsKeys : List (K × V) → Type 0
  KeepsKeys es = ((fs : List (K × V)) → keys_of (with_values_of es fs) ≡ keys_of es)
      × ((fs : List (K × V)) → length (with_values_of es fs) ≡ length es)

  -- the entries in the places `cs` from `at` on and before `end`, then those in the lists of `hs`,
  -- and then those from `from` on and before `until`
  abbrev pub entries_in : List (Option (K × V)) → List Head → (at end from until : ℕ)
      → List (K × V)
  entries_in cs hs at end from until =
      run cs at (end - at) ++ items_of (map (list_of cs) hs) ++ run cs from (until - from)

  -- the places from `at` on and before `end` are filled, and in the leaf `leaf`, which no head of
  -- `hs` has
  pub record IsPart (cs : List (Option (K × V))) (hs : List Head) (at end leaf : ℕ)
      : Type 0 where
    pub order : at ≤ end
    pub small : end < 2 ^ 64
    pub filled : IsRun cs at (end - at)
    pub apart : at < end → (leaf * 64 ≤ at) × (end ≤ (leaf + 1) * 64)
        × ((leaf + 1) * 64 ≤ length cs) × (heads_of leaf hs ≡ 0)

  -- the places from `at` on and before `end`, those from `from` on and before `until`, and the
  -- lists of `hs` are filled, each in a leaf of its own
  pub record AreParts (cs : List (Option (K × V))) (hs : List Head) (at end from until : ℕ)
      : Type 0 where
    pub first : ℕ
    pub last : ℕ
    pub front : IsPart cs hs at end first
    pub back : IsPart cs hs from until last
    pub differ : at < end → from < until → first ≢ last
    pub once : (l : ℕ) → heads_of l hs ≤ 1
    pub held : All (IsHeld cs) hs
    pub places : All (λ h. ((h.leaf + 1) * 64 ≤ length cs) × ((h.leaf + 1) * 64 < 2 ^ 64)) hs

  -- these parts together have `left` entries
  pub record IsLending (cs : List (Option (K × V))) (hs : List Head)
      (at end from until left : ℕ) : Type 0 where
    pub parts : AreParts cs hs at end from until
    pub count : left ≡ length (entries_in cs hs at end from until)

-- the entries that remain, and the name of the borrow of the map
pub record Lent (K V : Type 0) : Type 0 where
  pub entries : List (K × V)
  pub borrow : GName

-- the values that remain
abbrev pub values : {K V : Type 0} → Lent K V → List V
values it = values_of it.entries
