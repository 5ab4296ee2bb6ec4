-- Whether words say a command, where none is made.
use Rattle.vecscript.proofs.Common.{◌≡◌, ◌≢◌, ◌∙◌, inl, inr, ℕ, ◌^◌, Bool, true, false, List, [], ◌∷◌, length, sym, ap, arith, codes, Option, Some, Result, Ok, Err, Fault, Global, Vector, Command, AllZip, Denotes, IsBad, Say, words_of, nat_tests}
use Rattle.std.specs.Prelude.{MatchBool, MatchOption, IfErr, ◌⊎◌}
use Rattle.allocator_api2.specs.declared.raw_vec.Growth.TheVariants.{Doubling}
use Rattle.allocator_api2.specs.Growths.{of_new}
use Rattle.allocator_api2.specs.declared.runner.Command.TheVariants.{Extend, Splice}
use Rattle.vecscript.specs.Faults.{ReadsAs, ReadsAsOrOutOfMemory, Decides}
use Rattle.vecscript.specs.declared.script.Fault.TheVariants.{BadLine, OutOfMemory}
use Rattle.vecscript.specs.Lines.{IsHint}
use Rattle.vecscript.specs.Names.{SaysExtend, SaysSplice}

-- a vector of these elements
abbrev listed : List ℕ → Vector ℕ Global
listed xs =
    record { items = xs; capacity = 0; growth = Doubling; grown = of_new 0 0; written = 0; runs = 0; alloc = record { memory = record { seal = tt } }; spare = [] }

-- the words after a hint are elements or not
pub extend-decided : (b : Bool) (word : List ℕ) (words all : List (List ℕ)) (hint : Option ℕ) → all ≡ word ∷ words → IsHint word hint
    → Decides b (AllZip (Denotes (2 ^ 32)) words) → Decides b (SaysExtend all)
extend-decided true word words all hint is hinted decided = rw is (Extend (listed decided.0) hint, (hinted, decided.1))
extend-decided false word words all hint is hinted decided = rw is (λ command said. grind arith)

-- and those after a range and a hint
pub splice-decided : (b : Bool) (v w word : List ℕ) (words all : List (List ℕ)) (start end : ℕ) (hint : Option ℕ) → all ≡ v ∷ w ∷ word ∷ words
    → Denotes (2 ^ 64) v start → Denotes (2 ^ 64) w end → IsHint word hint
    → Decides b (AllZip (Denotes (2 ^ 32)) words) → Decides b (SaysSplice all)
splice-decided true v w word words all start end hint is first last hinted decided =
    rw is (Splice start end (listed decided.0) hint, (first, last, (hinted, decided.1)))
splice-decided false v w word words all start end hint is first last hinted decided = rw is (λ command said. grind arith)

-- a line whose words say no command is bad
bad-words : (line word : List ℕ) (words : List (List ℕ)) → words_of line ≡ word ∷ words → ((command : Command ℕ Global) → ¬ (Say (word ∷ words) command)) → IsBad line
bad-words line word words is unsaid = record { has_words = λ none. omega (arith, ap length (sym none ∙ is)); says_nothing = λ command said. unsaid command (rw is at said) }

-- a line with words is good if they say a command
pub good_if_said : (b : Bool) (line word : List ℕ) (words : List (List ℕ)) → words_of line ≡ word ∷ words → Decides b (Say (word ∷ words)) → MatchBool b (¬ (IsBad line)) (IsBad line)
good_if_said true line word words is decided = λ bad. bad.says_nothing decided.0 (rw is decided.1)
good_if_said false line word words is decided = bad-words line word words is decided

-- if nothing follows the name, the line says what the name says
pub said-alone : (name rest : List ℕ) (command : Command ℕ Global) → length rest ≡ 0 → Say (name ∷ []) command → Say (name ∷ words_of rest) command
said-alone name [] command none said = said
said-alone name (x ∷ xs) command none said = absurd (omega arith)

-- words that are read as no command are those of a bad line
pub bad-unread : (number : ℕ) (line word : List ℕ) (words : List (List ℕ)) → words_of line ≡ word ∷ words → (r : Result (Option (Command ℕ Global)) Fault)
    → ReadsAsOrOutOfMemory number (λ command. MatchOption command ⊥ (Say (word ∷ words))) r
    → IfErr r (λ fault. (fault ≡ OutOfMemory) ⊎ ((fault ≡ BadLine number) × IsBad line))
bad-unread number line word words is (Ok command) read = tt
bad-unread number line word words is (Err fault) (inl lacks) = inl lacks
bad-unread number line word words is (Err fault) (inr unread) = inr (unread.0, bad-words line word words is (λ command. unread.1 (Some command)))

-- nor those that are read as no push
pub bad-unpushed : (number : ℕ) (line : List ℕ) (words : List (List ℕ)) → words_of line ≡ codes "push" ∷ words → (r : Result (Command ℕ Global) Fault)
    → ReadsAs number (Say (codes "push" ∷ words)) r → IfErr r (λ fault. (fault ≡ OutOfMemory) ⊎ ((fault ≡ BadLine number) × IsBad line))
bad-unpushed number line words is (Ok command) read = tt
bad-unpushed number line words is (Err fault) read = inr (read.0, bad-words line (codes "push") words is read.1)

-- what a name alone says
pub ruleset alone = (said-alone, nat_tests)
