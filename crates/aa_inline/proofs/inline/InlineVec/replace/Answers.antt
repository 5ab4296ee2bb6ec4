use Rattle.std.proofs.Common.{rules}
use Rattle.aa_inline.proofs.inline.InlineVec.replace.Goals as goal

pub replace-requires : goal.replace-requires
replace-requires g c = (search rules, search rules)

pub index_mut-requires : goal.index_mut-requires
index_mut-requires g c = search rules
