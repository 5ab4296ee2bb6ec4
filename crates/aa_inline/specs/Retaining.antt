-- What a closure that tests items leaves of a small vector.
use Rattle.std.specs.Prelude.{◌≡◌, Bool, not, List, [], ◌∷◌, ◌++◌, map, MatchBool, Option, None, Some, ◌⊎◌}
use Rattle.allocator_api2.specs.Choosing.{Call, CalledInOrder, Deduplicated, kept, kept_after_removed, results_of}
use Rattle.aa_inline.specs.Inlined.{Inlined, with_written}

module _ {F T : Type 0} (Calls : F → T → Bool → F → T → Type 0) where
  -- the closure was called once for each of `xs`, in order, and was `f` and then `g`; `ys` are
  -- those for which it returned `true`
  pub record Sifts (f : F) (xs : List T) (g : F) (ys : List T) : Type 0 where
    pub calls : List (Call T)
    pub called : CalledInOrder Calls f xs calls g
    pub kept : ys ≡ kept calls

  -- `new` is `old` after one call of the closure for each item, in order: it has the items for
  -- which it returned `true`, and those after the first removed one were written
  pub record Retains {A : Type 0} (f : F) (old : Inlined T A) (g : F)
      (new : Inlined T A) : Type 0 where
    pub calls : List (Call T)
    pub called : CalledInOrder Calls f old.items calls g
    pub put : new ≡ with_written old (kept calls) (kept_after_removed (results_of calls))

module _ {F T : Type 0} (Calls : F → T → T → Bool → F → T → T → Type 0) where
  -- the closure was called for each of `xs` but the first, in order, with the last one kept before
  -- it, and was `f` and then `g`; `ys` is what remains without those for which it returned `true`
  pub record Distinguishes (f : F) (xs : List T) (g : F) (ys : List T) : Type 0 where
    pub results : List Bool
    pub called : Deduplicated Calls f xs results g ys

  -- `new` is `old` after such calls for its items: it has what remains of them, and those after the
  -- first removed one were written
  pub record Deduplicates {A : Type 0} (f : F) (old : Inlined T A) (g : F)
      (new : Inlined T A) : Type 0 where
    pub results : List Bool
    pub left : List T
    pub called : Deduplicated Calls f old.items results g left
    pub put : new ≡ with_written old left (kept_after_removed (map not results))

module _ {F T : Type 0} (Returns : F → T → Bool → T → Type 0) (f : F) where
  -- the closure `f` was called once for the last of `xs`. If it returned `true`, the item is the
  -- result, as the closure left it, and `ys` are the others; else nothing is removed
  pub record TestsLast (xs : List T) (result : Option T) (ys : List T) : Type 0 where
    pub others : List T
    pub last : T
    pub had : xs ≡ others ++ last ∷ []
    pub test : Bool
    pub left : T
    pub called : Returns f last test left
    pub ends : MatchBool test ((result ≡ Some left) × (ys ≡ others))
        ((result ≡ None) × (ys ≡ others ++ left ∷ []))

  -- the same, or there is no item
  abbrev pub PopsIf : (xs : List T) (result : Option T) (ys : List T) → Type 0
  PopsIf xs result ys = ((xs ≡ []) × (result ≡ None) × (ys ≡ [])) ⊎ TestsLast xs result ys
