-- Which line of a script chooses how its lists grow.
use Rattle.vecscript.proofs.Common.{◌≡◌, ◌≢◌, ℕ, true, false, ◌+◌, ◌≤◌, List, [], ◌∷◌, ◌++◌, length, refl, ap, rules, arith, nat_tests, append_assoc, append-nil, length-append, lines, Fault, words_of, growth_in, command_lines, AreAfterBlank, Mean, HasNoBad}
use Rattle.std.specs.Prelude.{if◌then◌else◌}
use Rattle.std.specs.List.{AllByRecursion}
use Rattle.allocator_api2.specs.declared.raw_vec.Growth.TheVariants.{Doubling, Sparing}
use Rattle.vecscript.proofs.Read.{HasSeen, HasNoBad-none, HasNoBad-one, HasNoBad-append}
use Rattle.vecscript.specs.declared.script.Fault.TheVariants.{BadLine, OutOfMemory, InputOutput}
use Rattle.vecscript.specs.Faults.{IsFoundAmong, after as after_of}
use Rattle.vecscript.specs.Lines.{are_sparing, said_in, IsFirstBad}

-- no line has words
abbrev pub AllBlank : List (List ℕ) → Type 0
AllBlank lines = AllByRecursion (λ line. words_of line ≡ []) lines

pub AllBlank-next : (line : List ℕ) → words_of line ≡ [] → (before : List (List ℕ)) → AllBlank before → AllBlank (before ++ line ∷ [])
AllBlank-next line this [] blank = (this, tt)
AllBlank-next line this (first ∷ before) blank = (blank.0, AllBlank-next line this before blank.1)

-- blank lines say and choose nothing, and none is bad
said_in-after : (before others : List (List ℕ)) → AllBlank before → said_in (before ++ others) ≡ said_in others
said_in-after [] others blank = refl
said_in-after (line ∷ before) others blank = rw blank.0 (said_in-after before others blank.1)

command_lines-after : (before others : List (List ℕ)) → AllBlank before → command_lines (before ++ others) ≡ before ++ command_lines others
command_lines-after [] others blank = refl
command_lines-after (line ∷ before) others blank = grind (arith, nat_tests, command_lines-after before others)

pub HasNoBad-blank : (before : List (List ℕ)) → AllBlank before → HasNoBad before
HasNoBad-blank [] blank = HasNoBad-none
HasNoBad-blank (line ∷ before) blank =
    HasNoBad-append (line ∷ []) before (HasNoBad-one line (λ bad. bad.has_words blank.0)) (HasNoBad-blank before blank.1)

pub Mean-blank : (before : List (List ℕ)) → AllBlank before → Mean before []
Mean-blank before blank = rw (rw (append-nil before) at (said_in-after before [] blank)) tt

-- of the lines that are left the first has words: it chooses sparing growth, or says a command
module _ (text old new line : List ℕ) (count : ℕ) (had : HasSeen AllBlank text old count) (next : lines old ≡ line ∷ lines new) (some : words_of line ≢ []) where
  pub growth_chosen : growth_in (lines text) ≡ (if are_sparing (words_of line) then Sparing else Doubling)
  growth_chosen = grind (arith, nat_tests, said_in-after)

  said : command_lines (lines text) ≡ had.before ++ (if are_sparing (words_of line) then [] else line) ∷ lines new
  said = grind (arith, nat_tests, command_lines-after)

  pub chosen : are_sparing (words_of line) ≡ true → AreAfterBlank (count + 1) (lines new) (command_lines (lines text))
  chosen says = (had.before ++ [] ∷ [], AllBlank-next [] refl had.before had.each, grind (arith, had.counted, length-append), grind (arith, said, append_assoc))

  pub unchosen : are_sparing (words_of line) ≡ false → AreAfterBlank 0 (lines text) (command_lines (lines text))
  unchosen says = ([], tt, refl, grind (arith, nat_tests, said, had.place))

-- no line is left
pub unsaid : (text rest : List ℕ) (count : ℕ) → HasSeen AllBlank text rest count → lines rest ≡ []
    → (growth_in (lines text) ≡ Doubling) × AreAfterBlank 0 (lines text) (command_lines (lines text))
unsaid text rest count had none = (grind (arith, had.place, said_in-after), ([], tt, refl, grind (arith, had.place, command_lines-after)))

-- the first bad line of those after blank ones is that of all
module _ (count : ℕ) (others all : List (List ℕ)) (after : AreAfterBlank count others all) where
  bad-after : (number : ℕ) → IsFirstBad others number → IsFirstBad all (count + number)
  bad-after number first =
      let place : all ≡ (after.0 ++ first.before) ++ (first.line ∷ first.after) = rw (append_assoc, ← first.place) after.3 in
      let good_before = HasNoBad-append _ _ (HasNoBad-blank after.0 after.1) first.good_before in
      search (rules, arith, place, after.2, first.counted, length-append after.0 first.before, good_before, first.bad)

  pub found-after : (fault : Fault) → IsFoundAmong others fault × (fault ≢ InputOutput)
      → IsFoundAmong all (after_of count fault) × (after_of count fault ≢ InputOutput)
  found-after OutOfMemory found = (tt, found.1)
  found-after InputOutput found = absurd (found.1 refl)
  found-after (BadLine number) found = (bad-after number found.0, search rules)

  -- where none of the others is bad none of all is
  pub good-after : (fault : Fault) → (fault ≡ OutOfMemory → HasNoBad others) → after_of count fault ≡ OutOfMemory → HasNoBad all
  good-after OutOfMemory good is = rw after.3 (HasNoBad-append after.0 others (HasNoBad-blank after.0 after.1) (good refl))
  good-after InputOutput good is = cc
  good-after (BadLine number) good is = cc

  -- and its number is that of one of all lines
  pub found-after-fits : (fault : Fault) → IsFoundAmong others fault → (number : ℕ) → fault ≡ BadLine number → count + number ≤ length all
  found-after-fits fault found number is =
      let bad = bad-after number (rw is at found) in
      omega (arith, ap length bad.place, length-append bad.before (bad.line ∷ bad.after), bad.counted)

pub length-command_lines : (ls : List (List ℕ)) → length (command_lines ls) ≡ length ls
length-command_lines [] = refl
length-command_lines (line ∷ ls) = grind (arith, nat_tests, length-command_lines ls)
