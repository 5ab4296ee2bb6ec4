use Rattle.vecscript.proofs.Beginnings.{HasWritten}
use Rattle.vecscript.proofs.writing.write_text.Given as goal

abbrev pub invariant-tries : goal.invariant-tries
invariant-tries g l = HasWritten (g.W.Write.contents l.initial.output) (g.W.Write.contents l.output) l.text l.rest
