use Rattle.std.proofs.Common.{rules}
use Rattle.aa_inline.proofs.inline.InlineVec.item_mut.Goals as goal

pub item_mut-requires : goal.item_mut-requires
item_mut-requires g c = (search rules, search rules)

pub index_mut-requires : goal.index_mut-requires
index_mut-requires g c = search rules
