use Rattle.std.proofs.Common.{rules}
use Rattle.aa_inline.proofs.inline.InlineVec.get_mut.Goals as goal

pub item_mut-requires : goal.item_mut-requires
item_mut-requires g c = (search rules, search rules)
