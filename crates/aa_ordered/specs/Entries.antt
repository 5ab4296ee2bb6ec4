-- The entries of an ordered map: keys with their values, in the order of the keys.
use Rattle.std.specs.Prelude.{◌≡◌, ℕ, ◌<◌, ◌≤◌, List, [], length, take, drop, All, Option, slice_index_or}
use Rattle.std.specs.declared.cmp.Ordering.{Ordering}
use Rattle.std.specs.declared.cmp.Ordering.TheVariants.{Less, Equal, Greater}
use Rattle.std.specs.Map.{keys_of, lookup, lookup_entry, remove_entry}
use Rattle.std.specs.BTreeMap.{is_at}
use Rattle.core.specs.List.Sorted.{IsStrictlySortedBy}

-- the view of an ordered map: its entries in the order of the keys, the number of entries that it
-- can always hold without another allocation, and the number of times that it moved to new blocks
pub record OrderedView (K V : Type 0) : Type 0 where
  pub entries : List (K × V)
  pub capacity : ℕ
  pub resizes : ℕ  -- each time to two: of the leaves and of their heads

-- an empty map, which has not allocated
abbrev pub empty : {K V : Type 0} → OrderedView K V
empty = record { entries = []; capacity = 0; resizes = 0 }

module _ {K V : Type 0} (cmp : K → K → Ordering) where
  -- each key of the entries `es` is less than those after it
  abbrev pub IsOrdered : List (K × V) → Type 0
  IsOrdered es = IsStrictlySortedBy cmp (keys_of es)

  -- the value of the key `k` in the entries `es`
  abbrev pub value : List (K × V) → K → Option V
  value es k = lookup (is_at (cmp k)) es

  -- the entry with a key equal to `k` in the entries `es`
  abbrev pub entry_of : List (K × V) → K → Option (K × V)
  entry_of es k = lookup_entry (is_at (cmp k)) es

  -- the entries `es` without the key `k`
  abbrev pub without : List (K × V) → K → List (K × V)
  without es k = remove_entry (is_at (cmp k)) es

-- what is looked up compares with each key by `order`, as the key `k` by `cmp k`
module _ {K V : Type 0} (order : K → Ordering) where
  -- all keys of the entries `es` are less than what is looked up
  abbrev pub AreLess : List (K × V) → Type 0
  AreLess es = All (λ e. order e.0 ≡ Greater) es

  -- all keys of the entries `es` are greater than what is looked up
  abbrev pub AreGreater : List (K × V) → Type 0
  AreGreater es = All (λ e. order e.0 ≡ Less) es

  -- the entries `es` have an equal key at index `at`
  pub record IsFound (es : List (K × V)) (at : ℕ) : Type 0 where
    pub within : at < length es
    pub before : AreLess (take at es)
    pub equal : (e : K × V) → e ≡ slice_index_or es at e → order e.0 ≡ Equal

  -- the entries `es` do not have an equal key, and one belongs at index `at`
  pub record IsGap (es : List (K × V)) (at : ℕ) : Type 0 where
    pub within : at ≤ length es
    pub before : AreLess (take at es)
    pub after : AreGreater (drop at es)
