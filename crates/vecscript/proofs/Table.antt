-- What a line says by the table, and by the tests of its name: the same.
use Rattle.vecscript.proofs.Common.{◌≡◌, ℕ, Bool, true, false, List, ◌∷◌, refl, inl, inr, arith, codes, Ok, Err, Fault, Global, Result, Command, ReadsAs, Say, Push, ExtractIf, SplitOff}
use Rattle.std.proofs.lemmas.Slice.Eq.{bytes_eq-Decides}
use Rattle.std.specs.Prelude.{MatchBool}
use Rattle.std.specs.Str.{bytes_eq}
use Rattle.allocator_api2.specs.declared.runner.Command.TheVariants.{Within, Pop, Insert, Remove, SwapRemove, Truncate, Clear, Reserve, ReserveExact, ShrinkTo, Append, Extend, ExtendFromWithin, Resize, Retain, Dedup, Drain, Splice}
use Rattle.vecscript.specs.Faults.{ReadsAsOrOutOfMemory, Decides}
use Rattle.vecscript.specs.Names.{SayAfter, SayAfterUncommon, SaysExtend, SaysSplice}

-- the words `rest` after this name say the command
abbrev pub SayNamed : List ℕ → List (List ℕ) → Command ℕ Global → Type 0
SayNamed name rest command =
    MatchBool (bytes_eq name (codes "extend")) (SaysExtend rest command)
    (MatchBool (bytes_eq name (codes "splice")) (SaysSplice rest command) (SayAfter name rest command))

module _ (name : List ℕ) (rest : List (List ℕ)) where
  -- the command's row names the test that it passes
  pub tests-of-row : (command : Command ℕ Global) → Say (name ∷ rest) command → SayNamed name rest command
  tests-of-row (Push x) said = rw said.0 (x, said.1, refl)
  tests-of-row (Within x) said = rw said.0 (x, said.1, refl)
  tests-of-row Pop said = rw said.0 (said.1, refl)
  tests-of-row (Insert index x) said = rw said.0 ((index, x), said.1, refl)
  tests-of-row (Remove index) said = rw said.0 (index, said.1, refl)
  tests-of-row (SwapRemove index) said = rw said.0 (index, said.1, refl)
  tests-of-row (Truncate n) said = rw said.0 (n, said.1, refl)
  tests-of-row Clear said = rw said.0 (said.1, refl)
  tests-of-row (Reserve n) said = rw said.0 (n, said.1, refl)
  tests-of-row (ReserveExact n) said = rw said.0 (n, said.1, refl)
  tests-of-row (ShrinkTo n) said = rw said.0 (n, said.1, refl)
  tests-of-row (SplitOff index) said = rw said.0 (index, said.1, refl)
  tests-of-row Append said = rw said.0 (said.1, refl)
  tests-of-row (Extend items hint) said = rw said.0 said.1
  tests-of-row (ExtendFromWithin start end) said = rw said.0 ((start, end), said.1, refl)
  tests-of-row (Resize n x) said = rw said.0 ((n, x), said.1, refl)
  tests-of-row Retain said = rw said.0 (said.1, refl)
  tests-of-row Dedup said = rw said.0 (said.1, refl)
  tests-of-row (Drain start end front back keep) said = rw said.0 ((start, end, front, back, keep), said.1, refl)
  tests-of-row (ExtractIf start end n) said = rw said.0 ((start, end, n), said.1, refl)
  tests-of-row (Splice start end items hint) said = rw said.0 said.1

  -- the test of one word: what it says, or what the later tests say, has the command's row
  tested : (word : List ℕ) {P Q R : Type 0} → MatchBool (bytes_eq name word) P Q → (name ≡ word → P → R) → (Q → R) → R
  tested word {P} {Q} {R} said this later = by-test (bytes_eq name word) (bytes_eq-Decides name word).0 said
    where
      by-test : (b : Bool) → (b ≡ true → name ≡ word) → MatchBool b P Q → R
      by-test true is said = this (is refl) said
      by-test false is said = later said

  row-of-extend : (command : Command ℕ Global) → name ≡ codes "extend" → SaysExtend rest command → Say (name ∷ rest) command
  row-of-extend command is said = grind arith

  row-of-splice : (command : Command ℕ Global) → name ≡ codes "splice" → SaysSplice rest command → Say (name ∷ rest) command
  row-of-splice command is said = grind arith

  row-of-uncommon : (command : Command ℕ Global) → SayAfterUncommon name rest command → Say (name ∷ rest) command
  row-of-uncommon command said =
      tested (codes "shrink_to") said (λ is said. rw said.2 (is, said.1)) (λ said.
      tested (codes "split_off") said (λ is said. rw said.2 (is, said.1)) (λ said.
      tested (codes "append") said (λ is said. rw said.1 (is, said.0)) (λ said.
      tested (codes "extend_from_within") said (λ is said. rw said.2 (is, said.1)) (λ said.
      tested (codes "resize") said (λ is said. rw said.2 (is, said.1)) (λ said.
      tested (codes "retain") said (λ is said. rw said.1 (is, said.0)) (λ said.
      tested (codes "dedup") said (λ is said. rw said.1 (is, said.0)) (λ said.
      tested (codes "drain") said (λ is said. rw said.2 (is, said.1)) (λ said.
      tested (codes "extract") said (λ is said. rw said.2 (is, said.1)) (λ said. absurd said)))))))))

  row-of-after : (command : Command ℕ Global) → SayAfter name rest command → Say (name ∷ rest) command
  row-of-after command said =
      tested (codes "push") said (λ is said. rw said.2 (is, said.1)) (λ said.
      tested (codes "within") said (λ is said. rw said.2 (is, said.1)) (λ said.
      tested (codes "pop") said (λ is said. rw said.1 (is, said.0)) (λ said.
      tested (codes "insert") said (λ is said. rw said.2 (is, said.1)) (λ said.
      tested (codes "remove") said (λ is said. rw said.2 (is, said.1)) (λ said.
      tested (codes "swap_remove") said (λ is said. rw said.2 (is, said.1)) (λ said.
      tested (codes "truncate") said (λ is said. rw said.2 (is, said.1)) (λ said.
      tested (codes "clear") said (λ is said. rw said.1 (is, said.0)) (λ said.
      tested (codes "reserve") said (λ is said. rw said.2 (is, said.1)) (λ said.
      tested (codes "reserve_exact") said (λ is said. rw said.2 (is, said.1)) (row-of-uncommon command))))))))))

  -- the test that the name passes names the command's row
  pub row-of-tests : (command : Command ℕ Global) → SayNamed name rest command → Say (name ∷ rest) command
  row-of-tests command said =
      tested (codes "extend") said (row-of-extend command) (λ said.
      tested (codes "splice") said (row-of-splice command) (row-of-after command))

  -- what is read by tests is read by the table
  pub read-by-table : (number : ℕ) (r : Result (Command ℕ Global) Fault) → ReadsAs number (SayNamed name rest) r → ReadsAs number (Say (name ∷ rest)) r
  read-by-table number (Ok command) said = row-of-tests command said
  read-by-table number (Err fault) unread = (unread.0, λ command said. unread.1 command (tests-of-row command said))

  -- what is read by the tests after those of `extend` and `splice`, if the name passes neither
  pub read-after : (number : ℕ) (r : Result (Command ℕ Global) Fault) → bytes_eq name (codes "extend") ≡ false → bytes_eq name (codes "splice") ≡ false
      → ReadsAs number (SayAfter name rest) r → ReadsAsOrOutOfMemory number (Say (name ∷ rest)) r
  read-after number (Ok command) no_extend no_splice said = row-of-after command said
  read-after number (Err fault) no_extend no_splice unread =
      inr (unread.0, λ command said. unread.1 command (rw (no_extend, no_splice) at (tests-of-row command said)))

  -- what is read by the table is read by tests
  pub read-by-tests : (number : ℕ) (r : Result (Command ℕ Global) Fault) → ReadsAs number (Say (name ∷ rest)) r → ReadsAs number (SayNamed name rest) r
  read-by-tests number (Ok command) said = tests-of-row command said
  read-by-tests number (Err fault) unread = (unread.0, λ command said. unread.1 command (row-of-tests command said))

  -- where an allocation may fail
  read-by-table-or-fails : (number : ℕ) (r : Result (Command ℕ Global) Fault) → ReadsAsOrOutOfMemory number (SayNamed name rest) r
      → ReadsAsOrOutOfMemory number (Say (name ∷ rest)) r
  read-by-table-or-fails number (Ok command) said = row-of-tests command said
  read-by-table-or-fails number (Err fault) (inl lacks) = inl lacks
  read-by-table-or-fails number (Err fault) (inr unread) = inr (unread.0, λ command said. unread.1 command (tests-of-row command said))

  pub decided-by-table : (b : Bool) → Decides b (SayNamed name rest) → Decides b (Say (name ∷ rest))
  decided-by-table true said = (said.0, row-of-tests said.0 said.1)
  decided-by-table false unsaid = λ command said. unsaid command (tests-of-row command said)

  -- what is read, or decided, after the names `extend` and `splice`
  pub read-extend : (number : ℕ) (r : Result (Command ℕ Global) Fault) → name ≡ codes "extend" → ReadsAsOrOutOfMemory number (SaysExtend rest) r
      → ReadsAsOrOutOfMemory number (Say (name ∷ rest)) r
  read-extend number r is read = read-by-table-or-fails number r (rw is read)

  pub read-splice : (number : ℕ) (r : Result (Command ℕ Global) Fault) → name ≡ codes "splice" → ReadsAsOrOutOfMemory number (SaysSplice rest) r
      → ReadsAsOrOutOfMemory number (Say (name ∷ rest)) r
  read-splice number r is read = read-by-table-or-fails number r (rw is read)

  pub decided-extend : (b : Bool) → name ≡ codes "extend" → Decides b (SaysExtend rest) → Decides b (Say (name ∷ rest))
  decided-extend b is decided = decided-by-table b (rw is decided)

  pub decided-splice : (b : Bool) → name ≡ codes "splice" → Decides b (SaysSplice rest) → Decides b (Say (name ∷ rest))
  decided-splice b is decided = decided-by-table b (rw is decided)
