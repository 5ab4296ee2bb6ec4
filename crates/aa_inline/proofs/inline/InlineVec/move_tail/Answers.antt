use Rattle.std.proofs.Common.{rules}
use Rattle.aa_inline.proofs.inline.InlineVec.move_tail.Goals as goal

pub move_tail-requires : goal.move_tail-requires
move_tail-requires g c = (search rules, search rules)
