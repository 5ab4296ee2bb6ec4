-- What contracts see of a `Drain`: the borrowed ring, which items of it are not taken yet, and which
-- are kept.
use Rattle.std.specs.Prelude.{◌≡◌, ℕ, ◌+◌, ◌-◌, ◌<◌, List, [], ◌∷◌, ◌++◌, length, take, drop, min, nat_lt, slice_range, if◌then◌else◌, Option, MatchOption}
use Rattle.std.specs.Borrow.{GName}
use Rattle.aa_ring.specs.Ringed.{Ringed, with_written}
use Rattle.aa_ring.specs.declared.drain.Drain.{Drain}

-- the list `xs` after its first `k` items became the last, in order
abbrev pub rotated : {T : Type 0} → List T → (k : ℕ) → List T
rotated xs k = drop k xs ++ take k xs

-- by how many items `n` kept ones are to be rotated, if it was `k` before the last became the first
abbrev pub turned_on : (n k : ℕ) → ℕ
turned_on n k = if nat_lt k n then k + 1 else 1

module _ {T A : Type 0} where
  -- the name of the reference to the ring of the drain `d`
  abbrev pub drain_lender : Drain T A → GName
  drain_lender d = d.ring.ghost_name

  -- the ring of the drain `d` while it is borrowed
  abbrev pub drain_ring : Drain T A → Ringed T A
  drain_ring d = d.ring.now

  -- the items that the drain `d` has not taken yet, which are the first of the ring
  abbrev pub drain_remaining : Drain T A → List T
  drain_remaining d = take d.left (drain_ring d).items

  -- by how many items the others are rotated when the drain `d` is dropped
  abbrev pub drain_turn : Drain T A → ℕ
  drain_turn d = d.turn

  -- the items outside the range of the drain `d`, in order
  abbrev pub drain_kept : Drain T A → List T
  drain_kept d = rotated (drop d.left (drain_ring d).items) d.turn

  -- the drain `d` takes the items from the index `i` up to `j` out of `old`, and none was taken yet;
  -- the items before `i` or those from there on were moved, whichever are fewer
  pub record TakesRange (old : Ringed T A) (i j : ℕ) (d : Drain T A) : Type 0 where
    pub range : drain_remaining d ≡ slice_range old.items i j
    pub kept : drain_kept d ≡ take i old.items ++ drop j old.items
    pub turn : drain_turn d ≡ length old.items - j
    pub others : let moved = min i (length old.items - i) in
        drain_ring d ≡ with_written old (drain_ring d).items moved

  -- the drain `new` keeps what `old` does, and no item was moved
  pub record DrainKeeps (old new : Drain T A) : Type 0 where
    pub lender : drain_lender new ≡ drain_lender old
    pub kept : drain_kept new ≡ drain_kept old
    pub turn : drain_turn new ≡ drain_turn old
    pub others : drain_ring new ≡ with_written (drain_ring old) (drain_ring new).items 0

  -- the drain `new` keeps what `old` does, and the last of these items was moved before the others
  pub record DrainTurns (old new : Drain T A) : Type 0 where
    pub lender : drain_lender new ≡ drain_lender old
    pub kept : drain_kept new ≡ drain_kept old
    pub turn : drain_turn new ≡ turned_on (length (drain_kept old)) (drain_turn old)
    pub others : drain_ring new ≡ with_written (drain_ring old) (drain_ring new).items 1

  -- `r` was taken from the front of the drain `s`, which is then `t`, or none remained
  abbrev pub drains_first : Drain T A → Option T → Drain T A → Type 0
  drains_first s r t =
      DrainKeeps s t
      × MatchOption r ((drain_remaining s ≡ []) × (drain_remaining t ≡ []))
      (λ x. drain_remaining s ≡ x ∷ drain_remaining t)

  -- the same from the back; if any item is kept, one is moved into the place of the item
  abbrev pub drains_last : Drain T A → Option T → Drain T A → Type 0
  drains_last s r t =
      MatchOption r ((drain_remaining s ≡ []) × (drain_remaining t ≡ []) × DrainKeeps s t)
      (λ x. (drain_remaining s ≡ drain_remaining t ++ x ∷ [])
      × (drain_kept s ≡ [] → DrainKeeps s t)
      × (0 < length (drain_kept s) → DrainTurns s t))

  -- `new` is the ring of the drain `d` with the items that are kept; those before the range or
  -- those after it were moved, whichever are fewer
  abbrev pub Closes : Drain T A → (new : Ringed T A) → Type 0
  Closes d new =
      let moved = min (drain_turn d) (length (drain_kept d) - drain_turn d) in
      new ≡ with_written (drain_ring d) (drain_kept d) moved
