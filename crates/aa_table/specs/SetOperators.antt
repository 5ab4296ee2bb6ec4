-- The sets that operators make of the elements of two sets.
use Rattle.std.specs.Prelude.{◌≡◌, Bool, true, false, not, List, [], length, filter, Result, IfOk, IfErr}
use Rattle.std.specs.List.{AllZip}
use Rattle.std.specs.Set.{is_member}
use Rattle.allocator_api2.specs.Errors.{IsErrorFor}
use Rattle.allocator_api2.specs.declared.collections.TryReserveError.{TryReserveError}
use Rattle.aa_table.specs.Contents.{fresh_capacity, fresh_resizes}
use Rattle.aa_table.specs.SetContents.{HasElements, SetView}
use Rattle.aa_table.specs.declared.set.operators.Part.{Part}
use Rattle.aa_table.specs.declared.set.operators.Part.TheVariants.{All, Common, Own, Nothing}

module _ {T : Type 0} (eq : T → T → Bool) where
  -- whether `x` is in this part of a set, beside a set of the elements `ys`
  abbrev pub is_in : Part → (ys : List T) → T → Bool
  is_in All ys x = true
  is_in Common ys x = is_member eq ys x
  is_in Own ys x = not (is_member eq ys x)
  is_in Nothing ys x = false

  -- this part of the elements `xs`, beside `ys`
  abbrev pub part_of : Part → (xs ys : List T) → List T
  part_of p xs ys = filter (is_in p ys) xs

  module _ (C : T → T → Type 0) {S : Type 0} where
    -- the set `u` has the elements of `s` after a clone of each of `xs` was inserted in turn, and its
    -- blocks, capacity and builder; `C` relates an element to its clone
    pub record InsertsClones (s : SetView T S) (xs : List T) (u : SetView T S) : Type 0 where
      pub clones : List T
      pub each : AllZip C xs clones
      pub elements : HasElements eq s.elements clones u.elements
      pub capacity : u.capacity ≡ s.capacity
      pub resizes : u.resizes ≡ s.resizes
      pub builder : u.builder ≡ s.builder

    module _ (D : S → Type 0) (xs : List T) where
      -- the set `s` has a clone of each of `xs`, where equal clones are one, the blocks of a new set
      -- for as many, and a builder with `D`
      pub record IsSetOfClones (s : SetView T S) : Type 0 where
        pub clones : List T
        pub each : AllZip C xs clones
        pub elements : HasElements eq [] clones s.elements
        pub capacity : s.capacity ≡ fresh_capacity (length xs)
        pub resizes : s.resizes ≡ fresh_resizes (length xs)
        pub builder : D s.builder

      -- `r` is such a set, or an error for the capacity of a new set for as many elements
      pub record MakesSet (r : Result (SetView T S) TryReserveError) : Type 0 where
        pub made : IfOk r IsSetOfClones
        pub error : IfErr r (λ e. IsErrorFor e (fresh_capacity (length xs)))
