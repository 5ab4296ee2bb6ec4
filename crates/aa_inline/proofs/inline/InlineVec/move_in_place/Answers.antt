use Rattle.std.proofs.Common.{rules}
use Rattle.aa_inline.proofs.inline.InlineVec.move_in_place.Goals as goal

pub collect_in_place-requires : goal.collect_in_place-requires
collect_in_place-requires g c = (search rules, search rules)
