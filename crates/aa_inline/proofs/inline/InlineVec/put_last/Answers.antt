use Rattle.std.proofs.Common.{rules}
use Rattle.aa_inline.proofs.inline.InlineVec.put_last.Goals as goal

pub push-requires : goal.push-requires
push-requires g c = (search rules, search rules)
