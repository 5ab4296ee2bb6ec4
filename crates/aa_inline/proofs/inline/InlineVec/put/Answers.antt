use Rattle.std.proofs.Common.{rules}
use Rattle.aa_inline.proofs.inline.InlineVec.put.Goals as goal

pub insert-requires : goal.insert-requires
insert-requires g c = (search rules, search rules)
