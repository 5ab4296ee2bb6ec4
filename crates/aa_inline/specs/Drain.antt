-- What contracts see of a `Drain`: the borrowed small vector, and what remains of the range.
use Rattle.std.specs.Prelude.{◌≡◌, ℕ, ◌+◌, ◌≤◌, List, [], ◌∷◌, ◌++◌, length, take, drop, Option, MatchOption}
use Rattle.std.specs.Borrow.{GName, RattleType}
use Rattle.std.specs.Mem.{FitsInMemory}
use Rattle.std.specs.declared.alloc.Allocator.{Ghosts}
use Rattle.aa_inline.specs.Inlined.{Inlined, with_items}
use Rattle.aa_inline.specs.contracts.inline.InlineVec.{the_row}
use Rattle.aa_inline.specs.declared.drain.Drain.{Drain}

module _ {T A : Type 0} {N : ℕ} where
  -- the name of the reference to the vector of the drain `d`
  abbrev pub drain_lender : Drain T A N → GName
  drain_lender d = d.vec.ghost_name

  -- the items of the range that the drain `d` has not taken yet
  abbrev pub drain_remaining : Drain T A N → List T
  drain_remaining d = drop d.front d.vec.now.items

  -- their number
  abbrev pub drain_len : Drain T A N → ℕ
  drain_len d = d.left

  -- the vector of the drain `d` once it is dropped: it has the items that are not in the range
  abbrev pub drain_left : Drain T A N → Inlined T A
  drain_left d = with_items d.vec.now (take d.kept d.vec.now.items)

  -- the drain `new` has the vector of `old`, and leaves the same items
  pub record DrainKeeps (old new : Drain T A N) : Type 0 where
    pub lender : drain_lender new ≡ drain_lender old
    pub left : drain_left new ≡ drain_left old

  -- `r` was taken from the front of the drain `s`, which is then `t`, or none remained
  abbrev pub drains_first : Drain T A N → Option T → Drain T A N → Type 0
  drains_first s r t =
      DrainKeeps s t
      × MatchOption r ((drain_remaining s ≡ []) × (t ≡ s))
      (λ x. drain_remaining s ≡ x ∷ drain_remaining t)

  -- the same from the back
  abbrev pub drains_last : Drain T A N → Option T → Drain T A N → Type 0
  drains_last s r t =
      DrainKeeps s t
      × MatchOption r ((drain_remaining s ≡ []) × (t ≡ s))
      (λ x. drain_remaining s ≡ drain_remaining t ++ x ∷ [])

module _ (T A N : RattleType) (g : Ghosts A.Denot) where
  -- the type of the vector is no larger than memory, as is so wherever a value of it exists
  abbrev pub FitsInline : Type 0
  FitsInline = FitsInMemory (the_row T A N g)

  -- the items that remain are the last ones of the vector, and those that are kept are before them
  abbrev pub CanDrain : {n : ℕ} → Drain T.Denot A.Denot n → Type 0
  CanDrain d = (d.kept ≤ d.front) × (d.front + d.left ≡ length d.vec.now.items) × FitsInline
