-- What contracts see of a `Drain`: the borrowed heap, whose items are those not taken yet.
use Rattle.std.specs.Prelude.{◌≡◌, List, [], ◌∷◌, reverse, Option, MatchOption}
use Rattle.std.specs.Borrow.{GName}
use Rattle.allocator_api2.specs.Vector.{Vector, SameBlock}
use Rattle.aa_heap.specs.declared.drain.Drain.{Drain}

module _ {T A : Type 0} where
  -- the name of the reference to the heap of the drain `d`
  abbrev pub drain_lender : Drain T A → GName
  drain_lender d = d.heap.ghost_name

  -- the heap of the drain `d` while it is borrowed
  abbrev pub drain_heap : Drain T A → Vector T A
  drain_heap d = d.heap.now

  -- the items that the drain `d` has not taken yet, the last in heap order first
  abbrev pub drain_remaining : Drain T A → List T
  drain_remaining d = reverse (drain_heap d).items

  -- the drain `new` has the heap of `old`, but for the items
  pub record DrainKeeps (old new : Drain T A) : Type 0 where
    pub lender : drain_lender new ≡ drain_lender old
    pub block : SameBlock (drain_heap old) (drain_heap new)
    pub written : (drain_heap new).written ≡ (drain_heap old).written
    pub runs : (drain_heap new).runs ≡ (drain_heap old).runs

  -- `r` was taken from the drain `s`, which is then `t`, or none remained
  abbrev pub drains_next : Drain T A → Option T → Drain T A → Type 0
  drains_next s r t =
      DrainKeeps s t
      × MatchOption r ((drain_remaining s ≡ []) × (drain_remaining t ≡ []))
      (λ x. drain_remaining s ≡ x ∷ drain_remaining t)
