-- What contracts see of an iterator that removes the values for which a closure returns `true`: the
-- borrowed map, the pairs that it kept, and those that it did not test yet.
use Rattle.std.specs.Prelude.{◌≡◌, Bool, true, not, List, [], ◌∷◌, ◌++◌, length, map, Option, MatchOption, if◌then◌else◌}
use Rattle.std.specs.Borrow.{GName, MutBor}
use Rattle.std.specs.Option.{option_map}
use Rattle.aa_slots.specs.declared.key.Key.{Key}
use Rattle.aa_slots.specs.declared.key.KeyData.{KeyData}
use Rattle.aa_slots.specs.declared.map.extract_if.ExtractBy.{ExtractBy}
use Rattle.aa_slots.specs.declared.map.extract_if.ExtractIf.{ExtractIf}
use Rattle.aa_slots.specs.Keys.{data_pair}
use Rattle.aa_slots.specs.Retaining.{MayReturn}
use Rattle.aa_slots.specs.Slotted.{Slotted, entries, pairs_before, pairs_from}

module _ {T A K : Type 0} where
  -- the name of the reference to the map of `e`
  abbrev pub extract_lender : ExtractBy T A K → GName
  extract_lender e = e.map.ghost_name

  -- the map of `e` while it is borrowed
  abbrev pub extract_map : ExtractBy T A K → Slotted T
  extract_map e = e.map.now

  -- the keys and values for which the closure was called, and that are kept
  abbrev pub extract_kept : ExtractBy T A K → List (KeyData × T)
  extract_kept e = pairs_before (extract_map e).slots e.at

  -- the keys and values for which the closure was not called yet
  abbrev pub extract_remaining : ExtractBy T A K → List (KeyData × T)
  extract_remaining e = pairs_from (extract_map e).slots e.at

  -- `new` has the map of `old`, but for what its slots contain: the pairs kept, and those that
  -- remain
  pub record ExtractKeeps (old new : ExtractBy T A K) : Type 0 where
    pub lender : extract_lender new ≡ extract_lender old
    pub slots : length (extract_map new).slots ≡ length (extract_map old).slots
    pub others : extract_map new ≡ record (extract_map old) { slots = (extract_map new).slots }
    pub all : entries (extract_map new) ≡ extract_kept new ++ extract_remaining new

module _ {T F A K : Type 0} where
  -- the iterator `i` without its closure
  abbrev pub extractor : ExtractIf T F A K → ExtractBy T A K
  extractor i = i.by

  -- the closure of the iterator `i`
  abbrev pub closure_of : ExtractIf T F A K → F
  closure_of i = i.f

module _ {T F K : Type 0} (step : F → Key K → MutBor T → Bool → MutBor T → F → Type 0) where
  -- a call of `f` with the opposite result
  abbrev pub negated : F → Key K → MutBor T → Bool → MutBor T → F → Type 0
  negated f k before result after g = step f k before (not result) after g

  -- `f` was called for each of the pairs `es`, in order, and is `g` then: those for which it
  -- returned `true` are `removed`, and the others are `kept`, each as the call left it
  abbrev pub Extracts : (f : F) → (es removed kept : List (KeyData × T)) → (g : F) → Type 0
  Extracts f [] removed kept g = (removed ≡ []) × (kept ≡ []) × (g ≡ f)
  Extracts f (e ∷ es) removed kept g =
      (remove : Bool) × (y : T) × (next : F) × MayReturn step f e.0 e.1 remove y next
      × (others rest : List (KeyData × T))
      × (removed ≡ (if remove then (e.0, y) ∷ others else others))
      × (kept ≡ (if remove then rest else (e.0, y) ∷ rest))
      × Extracts next es others rest g

  -- `f` was called for the pairs `es` in order, up to the first for which it returned `true`, and is
  -- `g` then: that one is `found`, those before it are `kept`, each as the call left it, and those
  -- after it are `rest`
  pub record ExtractsFirst (f : F) (es : List (KeyData × T)) (found : Option (KeyData × T))
      (kept rest : List (KeyData × T)) (g : F) : Type 0 where
    pub before : List (KeyData × T)
    pub state : F
    pub passed : Extracts f before [] kept state
    pub cases : MatchOption found ((es ≡ before) × (rest ≡ []) × (g ≡ state))
        (λ e. (x : T) × (es ≡ before ++ (e.0, x) ∷ rest) × MayReturn step state e.0 x true e.1 g)

  module _ {A : Type 0} where
    -- `t` is `s` after a call of `next`, which kept the pairs `passed` and returned `r`; the closure
    -- was `f`, and is `g` then
    pub record ExtractsNext (f : F) (s : ExtractBy T A K) (r : Option (Key K × T)) (g : F)
        (t : ExtractBy T A K) : Type 0 where
      pub passed : List (KeyData × T)
      pub first : ExtractsFirst f (extract_remaining s) (option_map data_pair r) passed
          (extract_remaining t) g
      pub kept : extract_kept t ≡ extract_kept s ++ passed
      pub others : ExtractKeeps s t

    -- `t` is `s` after a call of `next`, which called its own closure and returned `r`
    abbrev pub extracts_next : ExtractIf T F A K → Option (Key K × T) → ExtractIf T F A K → Type 0
    extracts_next s r t = ExtractsNext (closure_of s) (extractor s) r (closure_of t) (extractor t)

    -- `t` is `s` after calls of `next`, which tested the pairs `tested`, kept `passed` of them, and
    -- returned `xs`; the closure was `f`, and is `g` then
    pub record Extracted (f : F) (s : ExtractBy T A K) (xs : List (Key K × T)) (g : F)
        (t : ExtractBy T A K) : Type 0 where
      pub tested : List (KeyData × T)
      pub passed : List (KeyData × T)
      pub called : Extracts f tested (map data_pair xs) passed g
      pub remaining : extract_remaining s ≡ tested ++ extract_remaining t
      pub kept : extract_kept t ≡ extract_kept s ++ passed
      pub others : ExtractKeeps s t
