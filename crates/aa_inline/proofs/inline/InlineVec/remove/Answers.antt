use Rattle.std.proofs.Common.{rules}
use Rattle.aa_inline.proofs.inline.InlineVec.remove.Goals as goal

pub remove-requires : goal.remove-requires
remove-requires g c = (search rules, search rules)
