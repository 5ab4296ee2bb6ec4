use Rattle.std.proofs.Common.{rules}
use Rattle.aa_inline.proofs.inline.InlineVec.spill.Goals as goal

pub move_to_block-requires : goal.move_to_block-requires
move_to_block-requires g c = (search rules, search rules)
