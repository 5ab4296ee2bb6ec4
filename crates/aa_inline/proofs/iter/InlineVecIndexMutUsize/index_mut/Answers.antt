use Rattle.std.proofs.Common.{rules}
use Rattle.aa_inline.proofs.iter.InlineVecIndexMutUsize.index_mut.Goals as goal

pub item_mut-requires : goal.item_mut-requires
item_mut-requires g c = (search rules, search rules)
