use Rattle.vecscript.proofs.Common.{ℕ, List, ◌^◌, length, words_of, Denotes}
use Rattle.vecscript.proofs.Taken.{HasTaken}
use Rattle.vecscript.proofs.lines.are_elements.Given as goal

abbrev pub invariant-each : goal.invariant-each
invariant-each l =
    (xs : List ℕ) × HasTaken (Denotes (2 ^ 32)) (words_of l.fn.words.rest.now) (words_of l.words.rest.now) xs

abbrev pub decreases-each : goal.decreases-each
decreases-each l = length l.words.rest.now
