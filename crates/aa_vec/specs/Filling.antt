-- A gap before the tail of a vector: how it is opened, and filled with the items of an iterator.
use Rattle.std.specs.Prelude.{◌≡◌, ℕ, ◌+◌, ◌-◌, ◌*◌, ◌<◌, ◌≤◌, List, ◌∷◌, ◌++◌, take, drop, length, Option, None, ◌⊎◌, Result, IfErr, OnOk}
use Rattle.std.specs.Iterator.{Count, Yields, IsFinite, size as count_of}
use Rattle.std.specs.declared.iter.Iterator.{Ghosts}
use Rattle.aa_raw.specs.declared.collections.TryReserveError.{TryReserveError}
use Rattle.aa_vec.specs.Vector.{Vector, len, HasRoom, SameBlock, LacksRoom, Becomes, with_room, run_count, moved_over}
use Rattle.aa_vec.specs.Tail.{HasTail, tail_items}
use Rattle.aa_vec.specs.Extend.{YieldsWithLower, EndsAt, Takes}
use Rattle.aa_vec.specs.SpliceItems.{LacksOthers, PutsWithin, tail_moves}

module _ {T A : Type 0} where
  -- `new` is `old` after a call that moved the `n` elements of the tail up by `gap` places
  pub record OpensGap (old : Vector T A) (gap n : ℕ) (new : Vector T A) : Type 0 where
    pub becomes : let moved = moved_over gap n in
        Becomes old old.items moved (run_count moved) new
    pub has_tail : HasTail new gap n
    pub elements : tail_items new gap n ≡ tail_items old 0 n

  -- `new` is `old` after a call that reserved capacity for `gap` more elements, and moved the last
  -- `n` items up by `gap` places
  pub record WidensGap (size : ℕ) (old : Vector T A) (gap n : ℕ) (new : Vector T A) : Type 0 where
    pub becomes : let moved = moved_over gap n in
        Becomes (with_room size old (len old) gap) (take (len old - n) old.items)
        moved (run_count moved) new
    pub has_tail : HasTail new gap n
    pub elements : tail_items new gap n ≡ drop (len old - n) old.items

-- an iterator in the state `t`, after it returned `n` items from the state `s` on, can be called
-- again, and is finite
abbrev pub CanContinue : {S T : Type 0} → Ghosts S T → S → (n : ℕ) → S → Type 0
CanContinue g s n t =
    g.can_next t × IsFinite (g.remaining t)
    × (n + count_of (g.remaining t) ≤ count_of (g.remaining s))

module _ {S T : Type 0} (next_gives : S → Option T → S → Type 0) (s : S)
    (gap left : ℕ) (last : S) where
  -- calls of the iterator from the state `s` on returned `added` and led to `last`, and `left`
  -- places of the gap are left
  pub record YieldsForGap : Type 0 where
    pub added : List T
    pub yields : Yields next_gives s added last
    pub count : length added + left ≡ gap

  -- the gap is full and no other call was made; or places are left, and the next call led to `t`
  -- and returned `None`
  pub record EndsUnlessFull (t : S) : Type 0 where
    pub full : left ≡ 0 → t ≡ last
    pub ended : 0 < left → next_gives last None t

module _ {S T A : Type 0} (next_gives : S → Option T → S → Type 0) (s : S) (old : Vector T A)
    (gap n : ℕ) where
  -- `new` is `old` with the items that the iterator returned in the gap, of which `left` places are
  -- left before the `n` elements of the tail
  pub record Placed (left : ℕ) (last : S) (new : Vector T A) : Type 0 where
    pub comes : YieldsForGap next_gives s gap left last
    pub becomes : let k = length comes.added in
        Becomes old (old.items ++ comes.added) k k new
    pub has_tail : HasTail new left n
    pub elements : tail_items new left n ≡ tail_items old gap n

  -- `new` is `old` with the gap filled by the items of the iterator, until it was full or the
  -- iterator ended
  pub record FillsGap (left : ℕ) (t : S) (new : Vector T A) : Type 0 where
    pub last : S
    pub placed : Placed left last new
    pub stops : EndsUnlessFull next_gives s gap left last t

  -- `new` is `old` with the gap so filled, and then closed: the `n` elements of the tail were moved
  -- down
  pub record FillsAndCloses (left : ℕ) (t : S) (new : Vector T A) : Type 0 where
    pub last : S
    pub comes : YieldsForGap next_gives s gap left last
    pub stops : EndsUnlessFull next_gives s gap left last t
    pub becomes : let k = length comes.added in
        let moved = moved_over left n in
        Becomes old (old.items ++ (comes.added ++ tail_items old gap n))
        (k + moved) (k + run_count moved) new

module _ {S T A : Type 0} (next_gives : S → Option T → S → Type 0)
    (LowerIs : S → ℕ → Type 0) (s : S) (first : T) where
  -- `v` is a new vector with `first` and all items of the iterator from `s` on, which is in the
  -- state `after` now
  abbrev pub Collects : Vector T A → (after : S) → Type 0
  Collects v after = Takes next_gives LowerIs s
      (λ lower rest last. next_gives last None after × (v.items ≡ first ∷ rest))

module _ {S T A : Type 0} (next_gives : S → Option T → S → Type 0) (size : ℕ) (s : S)
    (old : Vector T A) where
  -- `new` is `old` with `first` and all items of the iterator from `s` on inserted before the last
  -- `n` items, after capacity was reserved for them at once; the iterator is in the state `after`
  -- now
  pub record PutsRest (n : ℕ) (first : T) (new : Vector T A) (after : S) : Type 0 where
    pub added : List T
    pub comes : (rest : List T) × (last : S) × Yields next_gives s rest last
        × next_gives last None after
        × (added ≡ first ∷ rest)
    pub becomes : Becomes (with_room size old (len old) (length added))
        (take (len old - n) old.items ++ (added ++ drop (len old - n) old.items))
        (length added + n) (1 + run_count n) new

  -- `new` is `old` with all items of the iterator from `s` on inserted before the last `n` items.
  -- Capacity was reserved first for the lower bound, and then for the others. The iterator is in
  -- the state `after` now
  pub record PutsAll (bound n : ℕ) (new : Vector T A) (after : S) : Type 0 where
    pub added : List T
    pub last : S
    pub yields : Yields next_gives s added last
    pub ends : next_gives last None after
    pub items : new.items ≡ take (len old - n) old.items ++ (added ++ drop (len old - n) old.items)
    pub room : let more = with_room size old (len old) bound in
        SameBlock (with_room size more (len old + bound) (length added - bound)) new
    pub written : new.written ≡ old.written + (length added + tail_moves 0 bound (length added) * n)

module _ {S T A : Type 0} (next_gives : S → Option T → S → Type 0) (LowerIs : S → ℕ → Type 0)
    (fails : Type 0) (size : ℕ) (s : S) (old : Vector T A) where
  -- no vector could be made of `first` and the items of the iterator from `s` on, which is in the
  -- state `after` now, or no capacity could be reserved for them
  abbrev pub LacksRest : (first : T) → TryReserveError → (after : S) → Type 0
  LacksRest first error after = Takes next_gives LowerIs s
      (λ lower rest last. EndsAt next_gives last after
      × LacksOthers fails ((end : S) × next_gives last None end) size lower old
      (first ∷ rest) error)

  module _ (bound n : ℕ) where
    -- `new` is `old` with a prefix `front` of the items of the iterator from `s` on inserted before
    -- the last `n`: the reservation for the lower bound, or for the others, failed. The iterator is
    -- in the state `after` now
    pub record PutsFront (error : TryReserveError) (new : Vector T A) (after : S) : Type 0 where
      pub front : List T
      pub others : List T
      pub lower : ℕ → ℕ
      pub last : S
      pub yields : YieldsWithLower next_gives LowerIs lower s (front ++ others) last
      pub stops : EndsAt next_gives last after
      pub items : new.items
          ≡ take (len old - n) old.items ++ (front ++ drop (len old - n) old.items)
      pub why :
          ((length (front ++ others) ≡ 0) × SameBlock old new × LacksRoom size new bound error)
          ⊎ ((length front ≡ bound) × (0 < length others)
          × SameBlock (with_room size old (len old) bound) new
          × LacksOthers fails ((end : S) × next_gives last None end) size lower new others error)

    -- `new` is `old` after a call with this `result` that inserts the items of the iterator from
    -- `s` on before the last `n`: all of them, or on an error a prefix. `remaining` bounds their
    -- number, and the iterator is in the state `after` now
    pub record Puts (remaining : S → Count) (result : Result Unit TryReserveError)
        (new : Vector T A) (after : S) : Type 0 where
      pub all : OnOk result (PutsAll next_gives size s old bound n new after)
      pub writes : (len old ≤ len new) × PutsWithin old (len old) n new
      pub error : IfErr result (λ e. PutsFront e new after)
      pub few : IfErr result (λ e. HasRoom old bound → bound < count_of (remaining s))
