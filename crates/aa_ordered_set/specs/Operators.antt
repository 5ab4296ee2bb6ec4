-- The sets that operators make of the elements of two sets.
use Rattle.std.specs.Prelude.{◌≡◌, ℕ, ◌*◌, List, [], length, Result, IfOk, IfErr}
use Rattle.std.specs.List.{AllZip}
use Rattle.std.specs.declared.cmp.Ordering.{Ordering}
use Rattle.allocator_api2.specs.Errors.{IsErrorFor}
use Rattle.allocator_api2.specs.declared.collections.TryReserveError.{TryReserveError}
use Rattle.aa_ordered.specs.Capacity.{capacity_of, fresh_resizes, leaves_for}
use Rattle.aa_ordered_set.specs.Sets.{insert_keys, IsAscending, SetView}

module _ {T : Type 0} (cmp : T → T → Ordering) (C : T → T → Type 0) where
  -- the set `s` has a clone of each of `xs`, inserted in turn, and the capacity and the resizes of a
  -- new set for `n` elements, where `C` relates an element to its clone
  pub record IsSetOfClones (xs : List T) (n : ℕ) (s : SetView T) : Type 0 where
    pub clones : List T
    pub each : AllZip C xs clones
    pub elements : s.elements ≡ insert_keys cmp [] clones
    pub same : IsAscending cmp clones → s.elements ≡ clones
    pub capacity : s.capacity ≡ capacity_of (leaves_for n)
    pub resizes : s.resizes ≡ fresh_resizes n

  -- `r` is a set of clones of the elements `xs`, or an error for the leaves of a new set for as many
  pub record MakesSet (xs : List T) (r : Result (SetView T) TryReserveError) : Type 0 where
    pub made : IfOk r (IsSetOfClones xs (length xs))
    pub error : IfErr r (λ e. IsErrorFor e (leaves_for (length xs) * 64))
