use Rattle.vecscript.proofs.Common.{◌^◌, length, words_of, Denotes}
use Rattle.vecscript.proofs.Taken.{HasTaken}
use Rattle.vecscript.proofs.lines.elements.Given as goal

abbrev pub invariant-each : goal.invariant-each
invariant-each l =
    HasTaken (Denotes (2 ^ 32)) (words_of l.fn.line.words.rest.now) (words_of l.words.rest.now) l.items.items

abbrev pub decreases-each : goal.decreases-each
decreases-each l = length l.words.rest.now
