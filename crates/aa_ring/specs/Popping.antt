-- What a closure that tests an item at an end leaves of a ring.
use Rattle.std.specs.Prelude.{◌≡◌, false, true, Bool, List, [], ◌∷◌, ◌++◌, Option, None, MatchOption, ◌⊎◌}
use Rattle.std.specs.Borrow.{MutBor}
use Rattle.std.specs.Fn.{FnOnceReturnsAtMut, Once}
use Rattle.aa_ring.specs.Ringed.{Ringed, with_items, with_written}

module _ {F T A : Type 0} (calls : Once F (MutBor T × Unit {0}) (Bool × (MutBor T × Unit {0}))) (f : F)
    (old : Ringed T A) (r : Option T) (new : Ringed T A) where
  -- nothing was removed from an empty ring
  abbrev pub PopsNone : Type 0
  PopsNone = (old.items ≡ []) × (r ≡ None) × (new ≡ old)

  -- the closure `f` was called at the first item `x`: it returned `true` and the item, as it was
  -- left, was removed and is `r`; or `false`, and the item is there as it was left
  pub record TestsFirst : Type 0 where
    pub item : T
    pub others : List T
    pub items : old.items ≡ item ∷ others
    pub left : T
    pub popped : MatchOption r
        (FnOnceReturnsAtMut calls f item false left × (new ≡ with_items old (left ∷ others)))
        (λ x. FnOnceReturnsAtMut calls f item true left × (x ≡ left)
        × (new ≡ with_written old others 0))

  -- the same at the last item
  pub record TestsLast : Type 0 where
    pub item : T
    pub others : List T
    pub items : old.items ≡ others ++ item ∷ []
    pub left : T
    pub popped : MatchOption r
        (FnOnceReturnsAtMut calls f item false left × (new ≡ with_items old (others ++ left ∷ [])))
        (λ x. FnOnceReturnsAtMut calls f item true left × (x ≡ left)
        × (new ≡ with_written old others 0))

  -- what `pop_front_if` leaves, and what `pop_back_if` leaves
  abbrev pub PopsFirstIf : Type 0
  PopsFirstIf = PopsNone ⊎ TestsFirst

  abbrev pub PopsLastIf : Type 0
  PopsLastIf = PopsNone ⊎ TestsLast
