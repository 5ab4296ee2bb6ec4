-- The run of a script, and the text that it prints.
use Rattle.std.specs.Prelude.{◌≡◌, ℕ, ◌%◌, Bool, ◌==◌, List, [], ◌++◌, ⊤}
use Rattle.std.specs.Global.{Global}
use Rattle.aa_vec.specs.Choosing.{Equals}
use Rattle.aa_vec.specs.Copies.{IsMade}
use Rattle.aa_vec.specs.Vector.{Vector}
use Rattle.allocator_api2.specs.declared.raw_vec.Growth.{Growth}
use Rattle.allocator_api2.specs.declared.runner.Command.{Command}
use Rattle.allocator_api2.specs.declared.runner.Reply.{Reply}
use Rattle.allocator_api2.specs.Machine.{State, Calls, state_of}
use Rattle.allocator_api2.specs.Run.{RunsTo}
use Rattle.vecscript.specs.Lines.{HasNoBad, Mean, growth_in, command_lines}
use Rattle.vecscript.specs.Print.{replies_text, printed}

-- the size of an element in bytes
abbrev pub element_size : ℕ
element_size = 4

module _ {K S : Type 0} (calls : Calls ℕ Global K S) where
  -- the list machine may run the commands on two empty lists with this growth policy and the
  -- closures in these states. Its replies and the lists are then printed as `text`
  pub record MayPrint (growth : Growth) (alloc : Global) (keep : K) (same : S)
      (commands : List (Command ℕ Global)) (text : List ℕ) : Type 0 where
    pub main : Vector ℕ Global
    pub side : Vector ℕ Global
    pub replies : List (Reply ℕ)
    pub last : State ℕ Global K S
    pub main_new : IsMade element_size 0 growth [] 0 main × (main.alloc ≡ alloc)
    pub side_new : IsMade element_size 0 growth [] 0 side × (side.alloc ≡ alloc)
    pub run : RunsTo element_size calls (state_of main side keep same) commands replies last
    pub is_text : text
        ≡ printed replies last.main.items last.main.capacity last.side.items last.side.capacity

  -- no line is bad, and the lines say commands that may lead from the state `old` to `new`. `text'`
  -- is `text` with their replies appended
  pub record RunsLines (old : State ℕ Global K S) (lines : List (List ℕ)) (text text' : List ℕ)
      (new : State ℕ Global K S) : Type 0 where
    pub good : HasNoBad lines
    pub commands : List (Command ℕ Global)
    pub meant : Mean lines commands
    pub replies : List (Reply ℕ)
    pub run : RunsTo element_size calls old commands replies new
    pub shown : text' ≡ text ++ replies_text replies

  -- the lines of the script say the growth policy of the lists, and commands that may print `text`
  pub record IsTranscript (alloc : Global) (keep : K) (same : S) (lines : List (List ℕ))
      (text : List ℕ) : Type 0 where
    pub commands : List (Command ℕ Global)
    pub meant : Mean (command_lines lines) commands
    pub prints : MayPrint (growth_in lines) alloc keep same commands text

-- a call of `keep` that keeps even numbers and does not change them
abbrev pub KeepsEven : Unit {0} → ℕ → Bool → Unit {0} → ℕ → Type 0
KeepsEven s x kept t y = (kept ≡ (x % 2 == 0)) × (y ≡ x)

-- a call of `same` that returns whether the numbers are equal and does not change them
abbrev pub RepeatsEqual : Unit {0} → ℕ → ℕ → Bool → Unit {0} → ℕ → ℕ → Type 0
RepeatsEqual = Equals (λ x l. x == l)

-- the calls in the run of a script, which are always allowed, with these clones of the allocator,
-- which cannot fail if `infallible` holds
abbrev pub script_calls : (Global → Global → Type 0) → (Global → Type 0)
    → Calls ℕ Global (Unit {0}) (Unit {0})
script_calls clones infallible =
    record {
      keeps = KeepsEven;
      repeats = RepeatsEqual;
      keep_callable = λ s x. ⊤;
      same_callable = λ s x l. ⊤;
      clones = clones;
      infallible = infallible;
    }
