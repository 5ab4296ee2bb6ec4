-- The entries in the places of a table, and how the slots index them.
use Rattle.std.specs.Prelude.{◌≡◌, ◌≢◌, ℕ, ◌+◌, ◌^◌, ◌<◌, ◌≤◌, Bool, true, false, List, [], length, map, get_or, Option, Some, None, ◌⊎◌}
use Rattle.std.specs.List.{fold}
use Rattle.std.specs.Option.{option_map}
use Rattle.std.specs.Hash.{HashWrites}
use Rattle.std.specs.Cmp.{IsEquivalence}
use Rattle.std.specs.declared.hash.Hasher as hasher
use Rattle.std.specs.declared.hash.BuildHasher as builder
use Rattle.allocator_api2.specs.Block.{Block}
use Rattle.allocator_api2.specs.Places.{IsFilled, somes}
use Rattle.aa_table.specs.declared.slots.Overflow.{Overflow}
use Rattle.aa_table.specs.declared.index.HashIndex.{HashIndex}
use Rattle.aa_table.specs.Contents.{keys_like}
use Rattle.aa_table.specs.Slots.{tag_at, ProbeReaches, IsIndex, IsMemory, IsSlots}

-- the hash that a hasher of the builder `s` makes of `writes`
unfoldable pub hash_by : {S H : Type 0} → builder.Ghosts S H → hasher.Ghosts H → S → HashWrites → ℕ
hash_by b h s writes = h.finish (fold h.write (b.build_hasher s) writes)

-- the hash of the key `k`, by the hasher of the builder `s`
abbrev pub hashes : {K S H : Type 0} → builder.Ghosts S H → hasher.Ghosts H → (K → HashWrites)
    → S → K → ℕ
hashes b h input s k = hash_by b h s (input k)

-- `eq` is an equivalence, and equal keys have the same hash `h`
pub record AreKeys {K : Type 0} (eq : K → K → Bool) (h : K → ℕ) : Type 0 where
  pub equality : IsEquivalence eq
  pub agree : (x y : K) → eq x y ≡ true → h x ≡ h y

-- the tags of all slots of an index, none if there is no index
abbrev pub tags_of : {A : Type 0} → Option (HashIndex A) → List ℕ
tags_of None = []
tags_of (Some i) = i.tags.items

module _ {K V : Type 0} where
  -- the hash of the key in each of the places `cs` that has one
  abbrev pub hashes_of : (K → ℕ) → List (Option (K × V)) → List (Option ℕ)
  hashes_of h cs = map (option_map (λ (e : K × V). h e.0)) cs

  -- each of the places `cs` whose slot is free by the tags `ts`, or that has no slot, is empty
  abbrev pub AreFree : List ℕ → List (Option (K × V)) → Type 0
  AreFree ts cs = (s : ℕ) → tag_at ts s ≡ 0 → get_or cs s None ≡ None

  -- each slot with a tag, from `from` on and before `end`, has an entry in the places `cs`
  abbrev pub AreHeldBetween : List ℕ → List (Option (K × V)) → (from end : ℕ) → Type 0
  AreHeldBetween ts cs from end =
      (s : ℕ) → from ≤ s → s < end → tag_at ts s ≢ 0 → IsFilled cs s

  -- each slot with a tag in `ts` has an entry in the places `cs`
  abbrev pub AreHeld : List ℕ → List (Option (K × V)) → Type 0
  AreHeld ts cs = (s : ℕ) → s < length ts → tag_at ts s ≢ 0 → IsFilled cs s

  module _ (test : K → Bool) where
    -- the place has an entry whose key passes the test
    abbrev pub has_key : Option (K × V) → Bool
    has_key None = false
    has_key (Some e) = test e.0

    -- place `s` of `cs` has an entry whose key passes the test
    abbrev pub key_at : List (Option (K × V)) → ℕ → Bool
    key_at cs s = has_key (get_or cs s None)

    -- no slot with this tag in the group from `from` on has a key that passes the test
    abbrev pub Lacks : List ℕ → List (Option (K × V)) → (from tag : ℕ) → Type 0
    Lacks ts cs from tag =
        (s : ℕ) → from ≤ s → s < from + 16 → tag_at ts s ≡ tag → key_at cs s ≡ false

    -- a search for the hash reaches each slot with a key that passes the test
    abbrev pub IsReachable : List ℕ → List Overflow → List (Option (K × V)) → (hash : ℕ) → Type 0
    IsReachable ts bs cs hash = (s : ℕ) → key_at cs s ≡ true → ProbeReaches ts bs hash s

    -- the index `i` is sound, each slot with a tag has an entry in `cs`, and a search for the hash
    -- reaches the keys that pass the test
    pub record IsFindable {A : Type 0} (i : HashIndex A) (cs : List (Option (K × V))) (hash : ℕ)
        : Type 0 where
      pub slots : IsSlots i.tags.items i.overflows.items
      pub held : AreHeld i.tags.items cs
      pub reachable : IsReachable i.tags.items i.overflows.items cs hash

    -- the index finds the keys that pass the test, or there is no index and all places are empty
    abbrev pub AreFindable : {A : Type 0} → Option (HashIndex A) → List (Option (K × V)) →
        (hash : ℕ)
        → Type 0
    AreFindable None cs hash = (s : ℕ) → get_or cs s None ≡ None
    AreFindable (Some i) cs hash = IsFindable i cs hash

  module _ (eq : K → K → Bool) where
    module _ (h : K → ℕ) where
      -- the index finds each key of the places `cs`, or there is no index and all places are empty
      abbrev pub IsIndexed : {A : Type 0} → Option (HashIndex A) → List (Option (K × V)) → Type 0
      IsIndexed None cs = (s : ℕ) → get_or cs s None ≡ None
      IsIndexed (Some i) cs = IsIndex i.tags.items i.overflows.items (hashes_of h cs)

      -- the block `b` and the index are a table of `count` entries with this capacity: each key is
      -- there once, and the index finds it
      pub record IsTable {A : Type 0} (b : Block (K × V) A) (index : Option (HashIndex A))
          (count capacity : ℕ) : Type 0 where
        pub keys : AreKeys eq h
        pub once : (k : K) → keys_like eq k (somes b.places) ≤ 1
        pub indexed : IsIndexed index b.places
        pub room : capacity ≡ 0 ⊎ capacity < length (tags_of index)
        pub memory : IsMemory capacity (length (tags_of index)) (length b.places)
        pub counted : count ≡ length (somes b.places)
        pub within : count ≤ capacity
        pub small : capacity < 2 ^ 32
