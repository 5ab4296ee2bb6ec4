use Rattle.aa_inline.proofs.Extending.{ok-drained}
use Rattle.aa_inline.proofs.inline.collect.InlineVecFromIterator.TheImpl.Goals as goal

pub from_iter-asks : goal.from_iter-asks
from_iter-asks g c = record { finite = λ it becomes. let asked = c.requires it becomes in (asked.0, asked.1) }

pub from_iter-tells : goal.from_iter-tells
from_iter-tells g c = record { ran = ok-drained g.U.IntoIter.Iterator.next_gives (g.U.IntoIterator.into_iter_gives c.args.iter) (λ v. v.items) _ c.result c.ensures.collected }
