use Rattle.aa_inline.proofs.Remaining.{in_order, in_reverse}
use Rattle.aa_inline.proofs.inline.InlineVec.into_iter.Goals as goal

pub returns-clause-runs : goal.returns-clause-runs
returns-clause-runs g c = in_order

pub returns-clause-runs_back : goal.returns-clause-runs_back
returns-clause-runs_back g c = in_reverse
