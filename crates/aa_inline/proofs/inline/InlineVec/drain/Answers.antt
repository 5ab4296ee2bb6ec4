use Rattle.aa_inline.proofs.Draining.{keeps-along, runs-in_order, runs-in_reverse}
use Rattle.aa_inline.proofs.inline.InlineVec.drain.Goals as goal

pub returns-clause-kept : goal.returns-clause-kept
returns-clause-kept g c = keeps-along _

pub returns-clause-in_order : goal.returns-clause-in_order
returns-clause-in_order g c = runs-in_order

pub returns-clause-in_reverse : goal.returns-clause-in_reverse
returns-clause-in_reverse g c = runs-in_reverse
