-- Whole runs of the list machine, and the elements that they move and write.
use Rattle.std.specs.Prelude.{◌≡◌, ℕ, ◌+◌, ◌-◌, ◌*◌, ◌/◌, ◌≤◌, max, Bool, not, List, [], ◌∷◌, map, slice_range, sum_by, if◌then◌else◌, Option, None, ⊤}
use Rattle.std.specs.List.{AllByRecursion}
use Rattle.aa_raw.specs.Growth.{amortized}
use Rattle.aa_raw.specs.Growths.{FewBlocks}
use Rattle.aa_raw.specs.declared.raw_vec.Growth.{Growth}
use Rattle.aa_raw.specs.declared.raw_vec.Growth.TheVariants.{Doubling, Sparing, InPlace}
use Rattle.aa_vec.specs.Choosing.{IsCallableInOrder, IsCallableAlong, kept_after_removed}
use Rattle.aa_vec.specs.Vector.{Vector, len}
use Rattle.allocator_api2.specs.declared.runner.Command.{Command}
use Rattle.allocator_api2.specs.declared.runner.Command.TheVariants.{Push, Within, Pop, Insert, Remove, SwapRemove, Truncate, Clear, Reserve, ReserveExact, ShrinkTo, SplitOff, Append, Extend, ExtendFromWithin, Resize, Retain, Dedup, Drain, ExtractIf, Splice}
use Rattle.allocator_api2.specs.declared.runner.Reply.{Reply}
use Rattle.allocator_api2.specs.declared.runner.Reply.TheVariants.{Done, Back, Range}
use Rattle.allocator_api2.specs.Machine.{State, Calls, Step, IsPossible, ends_of}

module _ {T A : Type 0} where
  -- the command reserves no capacity but for the elements that it adds
  abbrev pub AddsOrRemoves : Command T A → Type 0
  AddsOrRemoves (Push x) = ⊤
  AddsOrRemoves (Within x) = ⊤
  AddsOrRemoves Pop = ⊤
  AddsOrRemoves (Insert i x) = ⊤
  AddsOrRemoves (Remove i) = ⊤
  AddsOrRemoves (SwapRemove i) = ⊤
  AddsOrRemoves (Truncate n) = ⊤
  AddsOrRemoves Clear = ⊤
  AddsOrRemoves Append = ⊤
  AddsOrRemoves (Extend items hint) = ⊤
  AddsOrRemoves Retain = ⊤
  AddsOrRemoves Dedup = ⊤
  AddsOrRemoves (Drain start end front back keep) = ⊤
  AddsOrRemoves (ExtractIf start end count) = ⊤
  AddsOrRemoves (Reserve k) = ⊥
  AddsOrRemoves (ReserveExact k) = ⊥
  AddsOrRemoves (ShrinkTo k) = ⊥
  AddsOrRemoves (SplitOff at) = ⊥
  AddsOrRemoves (ExtendFromWithin from to) = ⊥
  AddsOrRemoves (Resize n x) = ⊥
  AddsOrRemoves (Splice start end items hint) = ⊥

  -- the lower bound in the command's size hint, if it has one
  abbrev pub hint_of : Command T A → Option ℕ
  hint_of (Extend items hint) = hint
  hint_of (Splice start end items hint) = hint
  hint_of command = None

  -- the command is one of these and adds at most one element: not one of the two that add a list
  abbrev pub AddsOneAtMost : Command T A → Type 0
  AddsOneAtMost Append = ⊥
  AddsOneAtMost (Extend items hint) = ⊥
  AddsOneAtMost command = AddsOrRemoves command

  -- how many elements `command` added to `main`, which is `main'` after it. A command that may
  -- reserve capacity for more than it adds counts for nothing
  abbrev pub added_by : (main side : Vector T A) → Command T A → Reply T → (main' : Vector T A) → ℕ
  added_by main side (Push x) Done main' = 1
  added_by main side (Within x) Done main' = 1
  added_by main side (Insert i x) Done main' = 1
  added_by main side Append Done main' = len side
  added_by main side (Extend items hint) reply main' = len main' - len main
  added_by main side command reply main' = 0

  -- the cost of `command`: how many elements of `main` it may write, by its reply. It is 0 if the
  -- range is out of bounds or the element is returned
  abbrev pub cost_of : (main side : Vector T A) → Command T A → List Bool → Reply T
      → (main' : Vector T A) → ℕ
  cost_of main side command results Range main' = 0
  cost_of main side command results (Back x) main' = 0
  cost_of main side (Push x) results reply main' = 1
  cost_of main side (Within x) results reply main' = 1
  cost_of main side Pop results reply main' = 0
  cost_of main side (Insert i x) results reply main' = len main - i + 1
  cost_of main side (Remove i) results reply main' = len main - i - 1
  cost_of main side (SwapRemove i) results reply main' = 1
  cost_of main side (Truncate n) results reply main' = 0
  cost_of main side Clear results reply main' = 0
  cost_of main side (Reserve k) results reply main' = 0
  cost_of main side (ReserveExact k) results reply main' = 0
  cost_of main side (ShrinkTo k) results reply main' = 0
  cost_of main side (SplitOff at) results reply main' = 0
  cost_of main side Append results reply main' = len side
  cost_of main side (Extend items hint) results reply main' = len main' - len main
  cost_of main side (ExtendFromWithin from to) results reply main' = to - from
  cost_of main side (Resize n x) results reply main' = n - len main
  cost_of main side Retain results reply main' = kept_after_removed results
  cost_of main side Dedup results reply main' = kept_after_removed (map not results)
  cost_of main side (Drain start end front back keep) results reply main' =
      let ends = ends_of start end front back in
      len main - end + (if keep then end - start - ends.front - ends.back else 0)
  cost_of main side (ExtractIf start end count) results reply main' = len main' - start
  cost_of main side (Splice start end items hint) results reply main' =
      len main' - (start + (len main - end)) + 2 * (len main - end)

-- one step of a run: a command with its reply, and the states before and after it
pub record Turn (T A K S : Type 0) : Type 0 where
  pub before : State T A K S
  pub command : Command T A
  pub results : List Bool  -- of the calls of closures
  pub reply : Reply T
  pub after : State T A K S

module _ {T A K S : Type 0} where
  -- how many elements the turn `t` added to main
  abbrev pub added : Turn T A K S → ℕ
  added t = added_by t.before.main t.before.side t.command t.reply t.after.main

  -- the cost of the turn `t`: how many elements of main it may write
  abbrev pub cost : Turn T A K S → ℕ
  cost t = cost_of t.before.main t.before.side t.command t.results t.reply t.after.main

  -- the greatest length of main after any of the turns
  abbrev pub greatest_length : List (Turn T A K S) → ℕ
  greatest_length [] = 0
  greatest_length (t ∷ ts) = max (len t.after.main) (greatest_length ts)

module _ {T A K S : Type 0} (size : ℕ) (calls : Calls T A K S) where
  -- the turn `t` is a step of the machine to a possible state, which writes no more than it costs
  pub record IsTurn (t : Turn T A K S) : Type 0 where
    pub step : Step size calls t.before t.command t.results t.reply t.after
    pub writes : t.after.main.written ≤ t.before.main.written + cost t
    pub possible : IsPossible t.after.main t.after.side

  -- the turns lead from the state `old` to the state `new`, one after another
  abbrev pub IsRun : State T A K S → List (Turn T A K S) → State T A K S → Type 0
  IsRun old [] new = new ≡ old
  IsRun old (t ∷ ts) new = (t.before ≡ old) × IsTurn t × IsRun t.after ts new

  -- from the state `old`, the machine may run `commands` with `replies`, and then is in `new`
  pub record RunsTo (old : State T A K S) (commands : List (Command T A)) (replies : List (Reply T))
      (new : State T A K S) : Type 0 where
    pub possible : IsPossible old.main old.side
    pub turns : List (Turn T A K S)
    pub run : IsRun old turns new
    pub commands_are : map (λ t. t.command) turns ≡ commands
    pub replies_are : map (λ t. t.reply) turns ≡ replies

-- how often growth by this policy may move each added element
abbrev pub moves_each : Growth → ℕ
moves_each Doubling = 2
moves_each Sparing = 3
moves_each InPlace = 2

module _ {T A K S : Type 0} (size : ℕ) (calls : Calls T A K S) (old : State T A K S)
    (commands : List (Command T A)) where
  -- from `old` to `new` is a run of the machine, and it has the properties of every run
  pub record RunsWithin (replies : List (Reply T)) (new : State T A K S) : Type 0 where
    pub run : RunsTo size calls old commands replies new
    -- if main was empty at first and the commands only add or remove, growth moved at most two
    -- elements for each added one, or three if sparing
    pub growth : old.main.items ≡ [] → AllByRecursion AddsOrRemoves commands
        → new.main.grown.moved
        ≤ old.main.grown.moved + moves_each old.main.growth * sum_by added run.turns
    -- and it allocated few blocks for them, at most `2 + log2 n` for `n` elements
    pub blocks : old.main.items ≡ [] → AllByRecursion AddsOrRemoves commands
        → FewBlocks old.main.growth (new.main.grown.blocks - old.main.grown.blocks)
        (sum_by added run.turns)
    -- if it also had no capacity at first and no command has a hint, its capacity at the end is at
    -- most 8, or twice its greatest length. This holds for any growth policy
    pub capacity : old.main.items ≡ [] → old.main.capacity ≡ 0
        → AllByRecursion (λ command. AddsOrRemoves command × (hint_of command ≡ None)) commands
        → new.main.capacity ≤ max 8 (2 * greatest_length run.turns)
    -- and if main is sparing, it is at most 8 or less than one and a half times that length
    pub sparing : old.main.growth ≡ Sparing → old.main.items ≡ [] → old.main.capacity ≡ 0
        → AllByRecursion (λ command. AddsOrRemoves command × (hint_of command ≡ None)) commands
        → let most = greatest_length run.turns in
        new.main.capacity ≤ max 8 (most + most / 2 - 1)
    -- and at any time it held at most as many places as the growth of a full block for the last
    -- element of the greatest length: three times that length, or two and a half times if sparing
    pub held : old.main.items ≡ [] → old.main.capacity ≡ 0
        → AllByRecursion (λ command. AddsOrRemoves command × (hint_of command ≡ None)) commands
        → let most = greatest_length run.turns in
        new.main.grown.held
        ≤ max old.main.grown.held (most - 1 + amortized old.main.growth (most - 1) most 8)
    -- no more elements of main were written than the commands cost
    pub writes : new.main.written ≤ old.main.written + sum_by cost run.turns

-- When a run may be called.
module _ {T A K S : Type 0} (size : ℕ) (calls : Calls T A K S) where
  -- in the state `s`, the closures may be called as the command calls them
  abbrev pub MayCall : State T A K S → Command T A → Type 0
  MayCall s Retain = IsCallableInOrder calls.keeps calls.keep_callable s.keep s.main.items
  MayCall s Dedup = IsCallableAlong calls.repeats calls.same_callable s.same s.main.items
  MayCall s (ExtractIf start end count) =
      IsCallableInOrder calls.keeps calls.keep_callable s.keep (slice_range s.main.items start end)
  MayCall s command = ⊤

  -- and after every step that the machine may take, as the following commands call them
  abbrev pub MayRun : State T A K S → List (Command T A) → Type 0
  MayRun s [] = ⊤
  MayRun s (command ∷ commands) =
      MayCall s command
      × ((results : List Bool) (reply : Reply T) (next : State T A K S)
      → Step size calls s command results reply next → IsPossible next.main next.side
      → MayRun next commands)

  -- from `s`, if it is possible, the closures may be called as the commands call them
  pub record IsCallableOnRuns (s : State T A K S) (commands : List (Command T A)) : Type 0 where
    pub along : IsPossible s.main s.side → MayRun s commands
