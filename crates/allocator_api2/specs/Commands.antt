-- What the functions of single commands ensure.
use Rattle.std.specs.Prelude.{◌≡◌, ℕ, ◌+◌, ◌-◌, ◌≤◌, Bool, List, [], ⊤}
use Rattle.aa_vec.specs.Vector.{Vector, len}
use Rattle.allocator_api2.specs.declared.runner.Command.{Command}
use Rattle.allocator_api2.specs.declared.runner.Command.TheVariants.{ExtractIf}
use Rattle.allocator_api2.specs.declared.runner.Reply.{Reply}
use Rattle.allocator_api2.specs.declared.runner.Reply.TheVariants.{Done}
use Rattle.allocator_api2.specs.Machine.{State, state_of, Calls, Replies, InRange, Step, TakesOut}
use Rattle.allocator_api2.specs.Run.{cost_of}

module _ {T A : Type 0} (size : ℕ) where
  -- `command`, which calls no closure, returns `reply` and leaves `main'` and `side'`, as the
  -- machine may, and writes no more elements than it costs. `sure` says that a clone of the
  -- allocator can't fail
  pub record Performs (sure : Type 0) (main side : Vector T A) (command : Command T A)
      (reply : Reply T) (main' side' : Vector T A) : Type 0 where
    pub replies : Replies size sure main side command reply main' side'
    pub writes : main'.written ≤ main.written + cost_of main side command [] reply main'

  -- the same for a command that changes `main` alone, whatever side is, and clones no allocator
  abbrev pub PerformsOnMain : (main : Vector T A) → Command T A → Reply T
      → (main' : Vector T A) → Type 0
  PerformsOnMain main command reply main' =
      (side : Vector T A) → Performs ⊤ main side command reply main' side

module _ {T A K S : Type 0} (size : ℕ) (calls : Calls T A K S) where
  -- from the state `old`, the machine may return `reply` to `command` and move to the state `new`,
  -- writing no more elements than `command` costs
  pub record PerformsStep (old : State T A K S) (command : Command T A) (reply : Reply T)
      (new : State T A K S) : Type 0 where
    pub results : List Bool
    pub step : Step size calls old command results reply new
    pub writes : new.main.written
        ≤ old.main.written + cost_of old.main old.side command results reply new.main

-- the state of `main`, `side` and the closure `keep`, with no second closure
abbrev pub state_with_keep : {T A K : Type 0} → Vector T A → Vector T A → K → State T A K (Unit {0})
state_with_keep main side keep = state_of main side keep tt

module _ {T A K S : Type 0} (size : ℕ) (Keeps : K → T → Bool → K → T → Type 0) where
  -- elements of the range from `start` to `end` were taken out, and no more elements of main were
  -- written than it then has after `start`. Or, with another reply, the closure was not called
  abbrev pub TakesChosen : State T A K S → (start end count : ℕ) → Reply T → State T A K S → Type 0
  TakesChosen old start end count Done new =
      InRange old.main (ExtractIf start end count)
      × TakesOut Keeps size old start end count new
      × (new.main.written ≤ old.main.written + (len new.main - start))
  TakesChosen old start end count reply new =
      (new.keep ≡ old.keep)
      × Performs size ⊤ old.main old.side (ExtractIf start end count) reply new.main new.side
