-- The parts of the commands `Drain` and `ExtractIf`.
use Rattle.std.specs.Prelude.{◌≡◌, ℕ, ◌+◌, ◌-◌, ◌≤◌, ◌<◌, Bool, List, [], ◌++◌, ◌⊎◌, length, take, drop, reverse, slice_range, if◌then◌else◌}
use Rattle.aa_vec.specs.Choosing.{Call, CalledInOrder, EndsTrue, kept, passed_over}
use Rattle.aa_vec.specs.Drain.{DrainKeeps, drain_remaining, taken_front, taken_back}
use Rattle.aa_vec.specs.Extract.{Extracted, extract_remaining}
use Rattle.aa_vec.specs.Vector.{Vector, len, Holds}
use Rattle.aa_vec.specs.declared.vec.drain.Drain.{Drain}
use Rattle.aa_vec.specs.declared.vec.extract_if.ExtractBy.{ExtractBy}
use Rattle.allocator_api2.specs.Machine.{State, Ends, remaining_of, drained_of}

-- the range from `start` to `end`, with `front` elements from its front and `back` from its back
abbrev pub ends_at : (start end front back : ℕ) → Ends
ends_at start end front back = record { start = start; end = end; front = front; back = back }

module _ {T A : Type 0} where
  -- `count` items were taken from the front of the drain `items`, which is `later` after that, and
  -- appended to `side`, in order
  pub record TakesFront (items : Drain T A) (side : Vector T A) (count : ℕ) (later : Drain T A)
      (new : Vector T A) : Type 0 where
    pub keeps : DrainKeeps items later
    pub rest : drain_remaining later ≡ drop count (drain_remaining items)
    pub front : taken_front later ≡ taken_front items + count
    pub back : taken_back later ≡ taken_back items
    pub holds : Holds side (side.items ++ take count (drain_remaining items)) new

  -- the same for items from the back, the last item first
  pub record TakesBack (items : Drain T A) (side : Vector T A) (count : ℕ) (later : Drain T A)
      (new : Vector T A) : Type 0 where
    pub keeps : DrainKeeps items later
    pub rest : drain_remaining later ≡ take (length (drain_remaining items) - count)
        (drain_remaining items)
    pub front : taken_front later ≡ taken_front items
    pub back : taken_back later ≡ taken_back items + count
    pub holds : Holds side
        (side.items ++ reverse (drop (length (drain_remaining items) - count)
        (drain_remaining items))) new

  -- the items `ends` of a range of `main` were taken, from the front and then from the back, and
  -- appended to `side`. The others of the range are kept or dropped
  pub record Drained (main side : Vector T A) (ends : Ends) (keep : Bool)
      (main' side' : Vector T A) : Type 0 where
    pub left : Holds main (remaining_of main.items ends keep) main'
    pub appended : Holds side (side.items ++ drained_of main.items ends) side'
    pub written : let others = ends.end - ends.start - ends.front - ends.back in
        main'.written ≤ main.written + (len main - ends.end + (if keep then others else 0))

module _ {T A K : Type 0} (Keeps : K → T → Bool → K → T → Type 0) where
  -- at most `most` elements were removed from the range and appended to `side`. If they are fewer,
  -- the closure was called for all elements, and else not after the last of these
  pub record TakesUpTo (keep : K) (range : ExtractBy T A) (side : Vector T A) (most : ℕ) (keep' : K)
      (later : ExtractBy T A) (new : Vector T A) : Type 0 where
    pub taken : List T
    pub extracted : Extracted Keeps keep range taken keep' later
    pub enough : (length taken ≡ most) × EndsTrue extracted.calls
        ⊎ (length taken < most) × (extract_remaining later ≡ [])
    pub holds : Holds side (side.items ++ taken) new

  -- at most `most` elements were removed from a range of main and appended to side
  pub record Chosen {S : Type 0} (old : State T A K S) (start end most : ℕ)
      (new : State T A K S) : Type 0 where
    pub calls : List (Call T)
    pub called : let first = take (length calls) (slice_range old.main.items start end) in
        CalledInOrder Keeps old.keep first calls new.keep
    pub enough : (length (kept calls) ≡ most) × EndsTrue calls
        ⊎ (length (kept calls) < most) × (length calls ≡ end - start)
    pub left : let rest = drop (start + length calls) old.main.items in
        Holds old.main (take start old.main.items ++ (passed_over calls ++ rest)) new.main
    pub appended : Holds old.side (old.side.items ++ kept calls) new.side
    pub written : new.main.written ≤ old.main.written + (len new.main - start)
