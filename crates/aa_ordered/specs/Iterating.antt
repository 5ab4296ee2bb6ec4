-- Entries that are inserted into a map one by one.
use Rattle.std.specs.Prelude.{◌≡◌, ℕ, ◌+◌, ◌*◌, ◌≤◌, List, [], ◌∷◌, length, max}
use Rattle.std.specs.BTreeMap.{insert_entry}
use Rattle.std.specs.List.{AllZip}
use Rattle.std.specs.declared.cmp.Ordering.{Ordering}
use Rattle.aa_ordered.specs.Capacity.{fresh_resizes, FewResizes}
use Rattle.aa_ordered.specs.Entries.{OrderedView, IsOrdered}

module _ {K V : Type 0} where
  -- the map `m` always has capacity for `k` more entries
  abbrev pub HasCapacity : OrderedView K V → (k : ℕ) → Type 0
  HasCapacity m k = length m.entries + k ≤ m.capacity

module _ {K V : Type 0} (cmp : K → K → Ordering) where
  -- the entries `es` after each pair of `xs` was inserted in turn, so that the first of equal keys
  -- stays and the last of their values
  abbrev pub insert_all : List (K × V) → List (K × V) → List (K × V)
  insert_all es [] = es
  insert_all es (x ∷ xs) = insert_all (insert_entry cmp es x.0 x.1) xs

  -- the map `n` has the entries of `m` after each pair of `xs` was inserted in turn
  pub record InsertsAll (m : OrderedView K V) (xs : List (K × V)) (n : OrderedView K V)
      : Type 0 where
    pub entries : n.entries ≡ insert_all m.entries xs
    -- its capacity is no less, and the same if that is sufficient
    pub capacity : m.capacity ≤ n.capacity
    pub steady : length n.entries ≤ m.capacity → n.capacity ≡ m.capacity
    -- if it grew, then to one leaf, which has 64 places, or to at most twice its entries
    pub most : n.capacity ≤ max m.capacity (max 64 (2 * length n.entries))
    -- and each time at least to twice the leaves
    pub resizes : m.resizes ≤ n.resizes
    pub few : FewResizes m n

  -- the map `n` has clones of the entries of `m`, inserted in turn, and the resizes of a new map for
  -- as many, where `C` and `D` relate a key and a value to its clone
  pub record IsCopy (C : K → K → Type 0) (D : V → V → Type 0) (m n : OrderedView K V)
      : Type 0 where
    pub clones : List (K × V)
    pub each : AllZip (λ e f. C e.0 f.0 × D e.1 f.1) m.entries clones
    pub entries : n.entries ≡ insert_all [] clones
    pub same : IsOrdered cmp clones → n.entries ≡ clones
    pub resizes : n.resizes ≡ fresh_resizes (length m.entries)
