-- The list machine: a reference model of two vectors, as lists with capacities, and its commands.
use denote.Ref.{MutBor}
use denote.Param.Members.{Mut}
use Rattle.std.specs.Prelude.{◌≡◌, ℕ, ◌+◌, ◌-◌, ◌^◌, ◌<◌, ◌≤◌, min, max, Bool, ◌==◌, List, [], ◌∷◌, ◌++◌, length, take, drop, replicate, insert, remove, swap_remove, slice_get, slice_range, reverse, if◌then◌else◌, Some, ◌⊎◌, Ok, Err, ⊤}
use Rattle.std.specs.Fn.{CalledAtMut, CalledAtPairMut}
use Rattle.aa_raw.specs.Closures.{CallableAtPairMut}
use Rattle.aa_raw.specs.declared.collections.TryReserveError.{TryReserveError}
use Rattle.aa_raw.specs.declared.collections.TryReserveErrorKind.TheVariants.{AllocError}
use Rattle.aa_raw.specs.Errors.{ClonesFail}
use Rattle.aa_vec.specs.Vector.{Vector, len, HasRoom, LacksRoom, LacksExactRoom, GrowsTo, Holds, Becomes, run_count, with_room, with_exact_room, with_less}
use Rattle.aa_vec.specs.Split.{Splits}
use Rattle.aa_vec.specs.Choosing.{Call, CalledInOrder, EndsTrue, CallableAtMut, Retains, Deduplicates, results_of, kept, passed_over}
use Rattle.aa_vec.specs.Extend.{Extends, lower_bound_of}
use Rattle.aa_vec.specs.SpliceItems.{gapped, SplicesAll, SpliceFails}
use Rattle.allocator_api2.specs.declared.runner.Command.{Command}
use Rattle.allocator_api2.specs.declared.runner.Command.TheVariants.{Push, Within, Pop, Insert, Remove, SwapRemove, Truncate, Clear, Reserve, ReserveExact, ShrinkTo, SplitOff, Append, Extend, ExtendFromWithin, Resize, Retain, Dedup, Drain, ExtractIf, Splice}
use Rattle.allocator_api2.specs.declared.runner.Reply.{Reply}
use Rattle.allocator_api2.specs.declared.runner.Reply.TheVariants.{Done, Item, Nothing, Back, Refused, Range}

-- the range from the index `start` up to `end`, of which `front` elements are taken from the front
-- and `back` from the back
pub record Ends : Type 0 where
  pub start : ℕ
  pub end : ℕ
  pub front : ℕ
  pub back : ℕ

-- a state of the machine: the two vectors, and the states of the two closures
pub record State (T A K S : Type 0) : Type 0 where
  pub main : Vector T A
  pub side : Vector T A
  pub keep : K
  pub same : S

-- the state of the vectors `main` and `side` and the closures `keep` and `same`
abbrev pub state_of : {T A K S : Type 0} → Vector T A → Vector T A → K → S → State T A K S
state_of main side keep same = record { main = main; side = side; keep = keep; same = same }

-- at most `front` elements from the front of the range, and at most `back` of the others from its
-- back
abbrev pub ends_of : (start end front back : ℕ) → Ends
ends_of start end front back =
    let first = min front (end - start) in
    let last = min back (end - start - first) in
    record { start = start; end = end; front = first; back = last }

-- the elements that a drain takes from `xs`: those from the front in order, and then those from
-- the back, the last first
abbrev pub drained_of : {T : Type 0} → List T → Ends → List T
drained_of xs ends =
    let middle = slice_range xs ends.start ends.end in
    take ends.front middle ++ reverse (drop (ends.end - ends.start - ends.back) middle)

-- the list after this drain, which keeps or drops the other elements of the range
abbrev pub remaining_of : {T : Type 0} → List T → Ends → (keep : Bool) → List T
remaining_of xs ends keep =
    let middle = slice_range xs ends.start ends.end in
    let rest = slice_range middle ends.front (ends.end - ends.start - ends.back) in
    take ends.start xs ++ ((if keep then rest else []) ++ drop ends.end xs)

-- replacing the range of `v` with `n` items, of which `lower` is the lower bound, does not
-- allocate. Either nothing follows the range, and they fit after its head. Or they are fewer than
-- the range has. Or, once they fill the gap, no more remain than the lower bound, and there is
-- spare capacity for that many
abbrev pub FitsRange : {T A : Type 0} → Vector T A → (start end n : ℕ) → (lower : ℕ → ℕ) → Type 0
FitsRange v start end n lower =
    let left = n - (end - start) in
    ((end ≡ len v) × (start + n ≤ v.capacity))
    ⊎ ((end < len v) × (n < end - start))
    ⊎ ((end < len v) × (left ≤ lower left) × HasRoom v (lower left))

module _ {T A : Type 0} where
  -- the indices of the command are within the bounds of main
  abbrev pub InRange : (main : Vector T A) → Command T A → Type 0
  InRange main (Push x) = ⊤
  InRange main (Within x) = ⊤
  InRange main Pop = ⊤
  InRange main (Insert i x) = i ≤ len main
  InRange main (Remove i) = i < len main
  InRange main (SwapRemove i) = i < len main
  InRange main (Truncate n) = ⊤
  InRange main Clear = ⊤
  InRange main (Reserve k) = ⊤
  InRange main (ReserveExact k) = ⊤
  InRange main (ShrinkTo k) = ⊤
  InRange main (SplitOff at) = at ≤ len main
  InRange main Append = ⊤
  InRange main (Extend items hint) = ⊤
  InRange main (ExtendFromWithin from to) = (from ≤ to) × (to ≤ len main)
  InRange main (Resize n x) = ⊤
  InRange main Retain = ⊤
  InRange main Dedup = ⊤
  InRange main (Drain start end front back keep) = (start ≤ end) × (end ≤ len main)
  InRange main (ExtractIf start end count) = (start ≤ end) × (end ≤ len main)
  InRange main (Splice start end items hint) = (start ≤ end) × (end ≤ len main)

  -- the command needs no allocation and no clone
  abbrev pub Fits : (main side : Vector T A) → Command T A → Type 0
  Fits main side (Push x) = HasRoom main 1
  Fits main side (Within x) = ⊤
  Fits main side Pop = ⊤
  Fits main side (Insert i x) = HasRoom main 1
  Fits main side (Remove i) = ⊤
  Fits main side (SwapRemove i) = ⊤
  Fits main side (Truncate n) = ⊤
  Fits main side Clear = ⊤
  Fits main side (Reserve k) = HasRoom main k
  Fits main side (ReserveExact k) = HasRoom main k
  Fits main side (ShrinkTo k) =
      (main.capacity ≤ max (len main) k) ⊎ (max (len main) k ≡ 0) ⊎ (main.capacity ≡ 2 ^ 64 - 1)
  Fits main side (SplitOff at) = ⊥
  Fits main side Append = HasRoom main (len side)
  Fits main side (Extend items hint) = HasRoom main (len items)
  Fits main side (ExtendFromWithin from to) = from ≡ to
  Fits main side (Resize n x) = (n ≤ len main) ⊎ ((n ≡ len main + 1) × (n ≤ main.capacity))
  Fits main side Retain = ⊤
  Fits main side Dedup = ⊤
  Fits main side (Drain start end front back keep) =
      let ends = ends_of start end front back in HasRoom side (ends.front + ends.back)
  Fits main side (ExtractIf start end count) = HasRoom side (min count (end - start))
  Fits main side (Splice start end items hint) =
      FitsRange main start end (len items) (lower_bound_of hint)

  -- `keep` was called for the first elements of the range of main, in order. Those for which it
  -- returned true, at most `count`, are appended to side, and it was not called after the last of
  -- them. The other elements are kept
  pub record TakesOut {K S : Type 0} (Keeps : K → T → Bool → K → T → Type 0) (size : ℕ)
      (old : State T A K S) (start end count : ℕ) (new : State T A K S) : Type 0 where
    pub calls : List (Call T)
    pub called : let first = take (length calls) (slice_range old.main.items start end) in
        CalledInOrder Keeps old.keep first calls new.keep
    pub enough : (length (kept calls) ≡ min count (end - start)) × EndsTrue calls
        ⊎ (length (kept calls) < min count (end - start)) × (length calls ≡ end - start)
    pub leaves : let rest = drop (start + length calls) old.main.items in
        Holds old.main (take start old.main.items ++ (passed_over calls ++ rest)) new.main
    pub appends : GrowsTo size old.side (min count (end - start)) (old.side.items ++ kept calls)
        new.side

  -- reserving capacity for `k` clones failed, and `new` is `old`. Or a clone of an element failed,
  -- and `new` keeps the capacity for all of them
  abbrev pub AppendingClonesFails : (size : ℕ) → Vector T A → (k : ℕ) → TryReserveError → Vector T A
      → Type 0
  AppendingClonesFails size old k error new =
      (LacksRoom size old k error × (new ≡ old))
      ⊎ ((error.kind ≡ AllocError (len old + k)) × GrowsTo size old k old.items new)

-- the elements have `size` bytes
module _ {T A : Type 0} (size : ℕ) where
  -- the command, which changes main alone, succeeds with `reply` and leaves `main'`
  abbrev pub SucceedsOnMain : (main : Vector T A) → Command T A → Reply T → (main' : Vector T A)
      → Type 0
  SucceedsOnMain main (Push x) Done main' =
      Becomes (with_room size main (len main) 1) (main.items ++ x ∷ []) 1 1 main'
  SucceedsOnMain main (Within x) Done main' =
      (len main < main.capacity) × Becomes main (main.items ++ x ∷ []) 1 1 main'
  SucceedsOnMain main (Within x) (Back y) main' = (len main ≡ main.capacity) × (y ≡ x)
      × (main' ≡ main)
  SucceedsOnMain main Pop (Item y) main' =
      (main.items ≡ main'.items ++ y ∷ []) × Becomes main main'.items 0 0 main'
  SucceedsOnMain main Pop Nothing main' = (main.items ≡ []) × (main' ≡ main)
  SucceedsOnMain main (Insert i x) Done main' =
      let moved = len main - i in
      Becomes (with_room size main (len main) 1) (insert main.items i x) (moved + 1)
      (run_count moved + 1) main'
  SucceedsOnMain main (Remove i) (Item y) main' =
      let moved = len main - i - 1 in
      (slice_get main.items i ≡ Some y)
      × Becomes main (remove main.items i) moved (run_count moved) main'
  SucceedsOnMain main (SwapRemove i) (Item y) main' =
      let moved = run_count (len main - i - 1) in
      (slice_get main.items i ≡ Some y) × Becomes main
      (swap_remove main.items i y) moved moved main'
  SucceedsOnMain main (Truncate n) Done main' = Becomes main (take n main.items) 0 0 main'
  SucceedsOnMain main Clear Done main' = Becomes main [] 0 0 main'
  SucceedsOnMain main (Reserve k) Done main' =
      Becomes (with_room size main (len main) k) main.items 0 0 main'
  SucceedsOnMain main (ReserveExact k) Done main' =
      Becomes (with_exact_room main (len main) k) main.items 0 0 main'
  SucceedsOnMain main (ShrinkTo k) Done main' =
      Becomes (with_less size main (max (len main) k)) main.items 0 0 main'
  SucceedsOnMain main (Extend items hint) Done main' =
      Extends size (lower_bound_of hint) main main.items items.items (Ok tt) main'
  SucceedsOnMain main (ExtendFromWithin from to) Done main' =
      let more = take (to - from) (drop from main.items) in
      Becomes (with_room size main (len main) (to - from)) (main.items ++ more) (to - from)
      (to - from) main'
  SucceedsOnMain main (Resize n x) Done main' =
      let k = n - len main in
      Becomes (with_room size main (len main) k) (take n main.items ++ replicate k x) k k main'
  SucceedsOnMain main (Splice start end items hint) Done main' =
      let xs = main.items in
      let rest = gapped main (take start xs) (end - start) (drop end xs) in
      SplicesAll size (lower_bound_of hint) rest items.items main'
  -- it returns no other reply
  SucceedsOnMain main command reply main' = ⊥

  -- the command succeeds with `reply` and leaves `main'` and `side'`. A `Drain` appends what it
  -- takes from the range of main to side
  abbrev pub Succeeds : (main side : Vector T A) → Command T A → Reply T →
      (main' side' : Vector T A)
      → Type 0
  Succeeds main side (SplitOff at) Done main' side' = Splits size main at main' side'
  Succeeds main side Append Done main' side' =
      let k = len side in
      Becomes (with_room size main (len main) k) (main.items ++ side.items) k (run_count k) main'
      × Becomes side [] 0 0 side'
  Succeeds main side (Drain start end front back keep) Done main' side' =
      let ends = ends_of start end front back in
      Holds main (remaining_of main.items ends keep) main'
      × GrowsTo size side (ends.front + ends.back) (side.items ++ drained_of main.items ends) side'
  Succeeds main side command reply main' side' = SucceedsOnMain main command reply main'
      × (side' ≡ side)

  -- the command fails with `error` and leaves `main'`. `sure` says that a clone of the
  -- allocator can't fail, which a `SplitOff` makes, and a `Splice` may for a vector of its own
  abbrev pub FailsWith : (sure : Type 0) (main side : Vector T A) → Command T A → TryReserveError
      → (main' : Vector T A) → Type 0
  FailsWith sure main side (Push x) error main' = LacksRoom size main 1 error × (main' ≡ main)
  FailsWith sure main side (Insert i x) error main' = LacksRoom size main 1 error × (main' ≡ main)
  FailsWith sure main side (Reserve k) error main' = LacksRoom size main k error × (main' ≡ main)
  FailsWith sure main side (ReserveExact k) error main' =
      LacksExactRoom size main k error × (main' ≡ main)
  FailsWith sure main side (ShrinkTo k) error main' =
      (error.kind ≡ AllocError (max (len main) k)) × (main' ≡ main)
  FailsWith sure main side (SplitOff at) error main' =
      ClonesFail sure (if at == 0 then main.capacity else len main - at) size error
      × (main' ≡ main)
  FailsWith sure main side Append error main' =
      LacksRoom size main (len side) error × (main' ≡ main)
  FailsWith sure main side (Extend items hint) error main' =
      Extends size (lower_bound_of hint) main main.items items.items (Err error) main'
  FailsWith sure main side (ExtendFromWithin from to) error main' =
      AppendingClonesFails size main (to - from) error main'
  FailsWith sure main side (Resize n x) error main' =
      AppendingClonesFails size main (n - len main) error main'
  FailsWith sure main side (Drain start end front back keep) error main' =
      let ends = ends_of start end front back in
      LacksRoom size side (ends.front + ends.back) error × (main' ≡ main)
  FailsWith sure main side (ExtractIf start end count) error main' =
      LacksRoom size side (min count (end - start)) error × (main' ≡ main)
  FailsWith sure main side (Splice start end items hint) error main' =
      let xs = main.items in
      let rest = gapped main (take start xs) (end - start) (drop end xs) in
      SpliceFails size (lower_bound_of hint) rest items.items (¬ sure) ⊤ error main'
  -- no other command fails
  FailsWith sure main side command error main' = ⊥

  -- the command, which calls no closure, may return `reply` and leave `main'` and `side'`. Either
  -- an index is out of bounds, or the command failed with an error of this kind, or it succeeded
  abbrev pub Replies : (sure : Type 0) (main side : Vector T A) → Command T A → Reply T
      → (main' side' : Vector T A) → Type 0
  Replies sure main side command Range main' side' =
      ¬ InRange main command × (main' ≡ main) × (side' ≡ side)
  Replies sure main side command (Refused kind) main' side' =
      InRange main command × ¬ Fits main side command
      × FailsWith sure main side command (record { kind = kind }) main' × (side' ≡ side)
  Replies sure main side command reply main' side' =
      InRange main command × Succeeds main side command reply main' side'

-- neither vector has more elements than places, or more than `usize::MAX` places
pub record IsPossible {T A : Type 0} (main side : Vector T A) : Type 0 where
  pub main_within : len main ≤ main.capacity
  pub main_countable : main.capacity ≤ 2 ^ 64 - 1
  pub side_within : len side ≤ side.capacity
  pub side_countable : side.capacity ≤ 2 ^ 64 - 1

-- what the calls of other code in a run may do: the calls of the two closures, and the clones of
-- the allocator
pub record Calls (T A K S : Type 0) : Type 1 where
  -- one call of `keep`, from its state and an element: the result, the next state, and the element
  -- after the call
  pub keeps : K → T → Bool → K → T → Type 0
  -- one call of `same`, from its state and two elements, likewise
  pub repeats : S → T → T → Bool → S → T → T → Type 0
  -- when they may be called
  pub keep_callable : K → T → Type 0
  pub same_callable : S → T → T → Type 0
  -- one clone of the allocator, and when it cannot fail
  pub clones : A → A → Type 0
  pub infallible : A → Type 0

-- the calls of the closures `keep` and `same`, and of this clone of the allocator
abbrev pub calls_of : {T A K S : Type 0} → (A → A → Type 0) → (A → Type 0)
    → Mut K (MutBor T × Unit {0}) (Bool × (MutBor T × Unit {0}))
    → Mut S (MutBor T × (MutBor T × Unit {0})) (Bool × (MutBor T × (MutBor T × Unit {0})))
    → Calls T A K S
calls_of clones infallible keep same =
    record {
      keeps = CalledAtMut keep;
      repeats = CalledAtPairMut same;
      keep_callable = CallableAtMut keep;
      same_callable = CallableAtPairMut same;
      clones = clones;
      infallible = infallible;
    }

module _ {T A K S : Type 0} (size : ℕ) (calls : Calls T A K S) where
  -- the command calls no closure
  pub record CallsNone (old : State T A K S) (command : Command T A) (results : List Bool)
      (reply : Reply T) (new : State T A K S) : Type 0 where
    pub none : results ≡ []
    pub keep : new.keep ≡ old.keep
    pub same : new.same ≡ old.same
    pub lists : let sure = calls.infallible old.main.alloc in
        Replies size sure old.main old.side command reply new.main new.side

  -- and the allocator is cloned for the new block, when main is split at `at`
  pub record CallsClone (old : State T A K S) (at : ℕ) (results : List Bool) (reply : Reply T)
      (new : State T A K S) : Type 0 where
    pub cut : CallsNone old (SplitOff at) results reply new
    pub tail_clone : reply ≡ Done → 0 < at → calls.clones old.main.alloc new.side.alloc
    pub head_clone : reply ≡ Done → at ≡ 0 → calls.clones old.main.alloc new.main.alloc

  -- `keep` is called for the elements of main, with these results
  pub record CallsKeep (old : State T A K S) (results : List Bool) (reply : Reply T)
      (new : State T A K S) : Type 0 where
    pub done : reply ≡ Done
    pub side : new.side ≡ old.side
    pub same : new.same ≡ old.same
    pub retains : Retains calls.keeps old.keep old.main new.keep new.main
    pub called : results ≡ results_of retains.calls

  -- `same` is called for the elements of main, with these results
  pub record CallsSame (old : State T A K S) (results : List Bool) (reply : Reply T)
      (new : State T A K S) : Type 0 where
    pub done : reply ≡ Done
    pub side : new.side ≡ old.side
    pub keep : new.keep ≡ old.keep
    pub removes : Deduplicates calls.repeats old.same old.main new.same new.main
    pub called : results ≡ removes.results

  -- `keep` is called for elements of the range of main, with these results
  pub record CallsExtract (old : State T A K S) (start end count : ℕ) (results : List Bool)
      (new : State T A K S) : Type 0 where
    pub in_range : InRange old.main (ExtractIf start end count)
    pub same : new.same ≡ old.same
    pub takes : TakesOut calls.keeps size old start end count new
    pub called : results ≡ results_of takes.calls

  -- from `old`, the machine may return `reply` to `command` and move to `new`, if the closures that
  -- it calls return these results. `ExtractIf` calls none if it does not succeed
  abbrev pub Step : State T A K S → Command T A → (results : List Bool) → Reply T → State T A K S
      → Type 0
  Step old (SplitOff at) results reply new = CallsClone old at results reply new
  Step old Retain results reply new = CallsKeep old results reply new
  Step old Dedup results reply new = CallsSame old results reply new
  Step old (ExtractIf start end count) results Done new =
      CallsExtract old start end count results new
  Step old command results reply new = CallsNone old command results reply new
