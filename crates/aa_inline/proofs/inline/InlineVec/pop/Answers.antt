use Rattle.std.proofs.Common.{rules}
use Rattle.aa_inline.proofs.inline.InlineVec.pop.Goals as goal

pub pop-requires : goal.pop-requires
pop-requires g c = (search rules, search rules)
