use Rattle.vecscript.proofs.Common.{HasNoBad}
use Rattle.vecscript.proofs.Read.{HasSeen}
use Rattle.vecscript.proofs.lines.first_bad.Given as goal

abbrev pub invariant-loop-index : goal.invariant-loop-index
invariant-loop-index l =
    (goal.iterator-loop-index).can_next l.index-iterator ×
    (goal.iterator-loop-index).is_finite l.index-iterator ×
    HasSeen HasNoBad l.text l.index-iterator.iter.rest.now l.index-iterator.count
