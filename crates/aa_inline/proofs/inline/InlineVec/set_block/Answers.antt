use Rattle.std.proofs.Common.{rules}
use Rattle.aa_inline.proofs.inline.InlineVec.set_block.Goals as goal

pub move_to_exact_block-requires : goal.move_to_exact_block-requires
move_to_exact_block-requires g c = (search rules, search rules)
