-- A text of which some lines are seen.
use Rattle.vecscript.proofs.Common.{◌≡◌, ℕ, ◌+◌, ◌≤◌, List, [], ◌∷◌, ◌++◌, length, map, nat_lt, Option, None, Some, refl, ap, rules, arith, nat_tests, append_assoc, append-nil, length-append, map-append, All-append, Global, lines, Command, HasNoBad, IsBad, words_of, Say, Mean}
use Rattle.std.proofs.Common.{MatchOption}
use Rattle.std.proofs.lemmas.List.Elements.{filter-append}
use Rattle.vecscript.proofs.TextLines.{length-lines}
use Rattle.vecscript.proofs.Taken.{AllZip-append}

-- the first lines of the text, as many as count, are such ones, and rest has the others; there are no more lines than bytes
pub record HasSeen (Are : List (List ℕ) → Type 0) (text rest : List ℕ) (count : ℕ) : Type 0 where
  pub before : List (List ℕ)
  pub place : lines text ≡ before ++ lines rest
  pub counted : count ≡ length before
  pub bound : count + length (lines rest) ≤ length text
  pub each : Are before

pub HasSeen-start : (Are : List (List ℕ) → Type 0) (text : List ℕ) → Are [] → HasSeen Are text text 0
HasSeen-start Are text none = record { before = []; place = refl; counted = refl; bound = omega (arith, length-lines text); each = none }

-- the next line is seen too
pub HasSeen-next : (Are Then : List (List ℕ) → Type 0) (text old new line : List ℕ) (before after : ℕ) → HasSeen Are text old before
    → lines old ≡ line ∷ lines new → after ≡ before + 1 → ((ls : List (List ℕ)) → Are ls → Then (ls ++ line ∷ [])) → HasSeen Then text new after
HasSeen-next Are Then text old new line before after had next counts more =
    let place : lines text ≡ (had.before ++ line ∷ []) ++ lines new = rw (append_assoc, ← next) had.place in
    search (rules, arith, place, had.counted, had.bound, length-append had.before (line ∷ []), ap length next, more had.before had.each)

-- no line is bad
pub HasNoBad-none : HasNoBad []
HasNoBad-none = record { all_good = search rules }

pub HasNoBad-one : (line : List ℕ) → ¬ (IsBad line) → HasNoBad (line ∷ [])
HasNoBad-one line this = record { all_good = search (rules, this) }

-- the lines of two texts, one after the other
pub HasNoBad-append : (ls ms : List (List ℕ)) → HasNoBad ls → HasNoBad ms → HasNoBad (ls ++ ms)
HasNoBad-append ls ms good more = record { all_good = All-append (λ l. ¬ (IsBad l)) ls ms good.all_good more.all_good }

pub Mean-append : (ls ms : List (List ℕ)) (commands more : List (Command ℕ Global)) → Mean ls commands → Mean ms more
    → Mean (ls ++ ms) (commands ++ more)
Mean-append ls ms commands more meant later =
    rw (map-append words_of ls ms, filter-append (λ words. nat_lt 0 (length words)) (map words_of ls) (map words_of ms))
    (AllZip-append Say _ _ commands more meant later)

-- a line that says a command
Mean-one : (line : List ℕ) (words : List (List ℕ)) (command : Command ℕ Global) → words_of line ≡ words → Say words command → Mean (line ∷ []) (command ∷ [])
Mean-one line [] command e said = absurd said
Mean-one line (word ∷ words) command e said = rw e (grind (arith, nat_tests))

-- none of the lines is bad, and they mean the commands
abbrev pub AreRead : List (Command ℕ Global) → List (List ℕ) → Type 0
AreRead commands ls = HasNoBad ls × Mean ls commands

-- the commands with that of one line more, if it has words
abbrev pub with_command : List (Command ℕ Global) → Option (Command ℕ Global) → List (Command ℕ Global)
with_command commands None = commands
with_command commands (Some command) = commands ++ command ∷ []

pub AreRead-next : (line : List ℕ) (commands : List (Command ℕ Global)) (command : Option (Command ℕ Global))
    → MatchOption command (words_of line ≡ []) (Say (words_of line)) → (ls : List (List ℕ)) → AreRead commands ls
    → AreRead (with_command commands command) (ls ++ line ∷ [])
AreRead-next line commands None none ls read = (
  HasNoBad-append ls _ read.0 (HasNoBad-one line (λ bad. bad.has_words none)),
  rw (append-nil commands) at (Mean-append ls (line ∷ []) commands [] read.1 (rw none tt)),
)
AreRead-next line commands (Some command) said ls read = (
  HasNoBad-append ls _ read.0 (HasNoBad-one line (λ bad. bad.says_nothing command said)),
  Mean-append ls _ commands _ read.1 (Mean-one line (words_of line) command refl said),
)
