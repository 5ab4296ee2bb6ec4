use Rattle.vecscript.proofs.Common.{length, lines}
use Rattle.vecscript.proofs.Read.{HasSeen}
use Rattle.vecscript.proofs.Sparing.{AllBlank}
use Rattle.vecscript.proofs.lines.chosen_growth.Given as goal

abbrev pub invariant-blank : goal.invariant-blank
invariant-blank l = HasSeen AllBlank l.text l.rest.rest.now l.count

abbrev pub decreases-blank : goal.decreases-blank
decreases-blank l = length (lines l.rest.rest.now)
