-- What contracts see of a `Drain` of a set: the borrowed set, which has the elements that remain.
use Rattle.std.specs.Prelude.{◌≡◌, List, [], ◌∷◌, Option, MatchOption, IsPermutation}
use Rattle.std.specs.Borrow.{GName}
use Rattle.aa_table.specs.SetContents.{SetView}
use Rattle.aa_table.specs.declared.set.drain.Drain.{Drain}

module _ {T S A H : Type 0} where
  -- the name of the reference to the set of the drain `d`
  abbrev pub drain_lender : Drain T S A H → GName
  drain_lender d = d.set.ghost_name

  -- the set of the drain `d` while it is borrowed: its elements are those that remain
  abbrev pub drain_set : Drain T S A H → SetView T S
  drain_set d = d.set.now

  -- the elements that remain
  abbrev pub drain_remaining : Drain T S A H → List T
  drain_remaining d = d.set.now.elements

  -- `r` was removed from the set of the drain `d`, which is then `e`, or none remained; only the
  -- order of the others may change
  pub record DrainsElement (d : Drain T S A H) (r : Option T) (e : Drain T S A H) : Type 0 where
    pub lender : drain_lender e ≡ drain_lender d
    pub capacity : (drain_set e).capacity ≡ (drain_set d).capacity
    pub resizes : (drain_set e).resizes ≡ (drain_set d).resizes
    pub builder : (drain_set e).builder ≡ (drain_set d).builder
    pub elements : MatchOption r ((drain_remaining d ≡ []) × (drain_remaining e ≡ []))
        (λ x. IsPermutation (drain_remaining d) (x ∷ drain_remaining e))
