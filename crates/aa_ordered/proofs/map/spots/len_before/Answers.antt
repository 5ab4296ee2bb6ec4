use Rattle.std.proofs.Common.{ap, arith, length, sym, ◌∙◌}
use Rattle.aa_ordered.proofs.Balance.{last-take}
use Rattle.aa_ordered.proofs.map.spots.len_before.Goals as goal

pub returns-else-i-eq0-clause-len : goal.returns-else-i-eq0-clause-len
returns-else-i-eq0-clause-len g c = ap length c.list.ensures.list ∙ sym (last-take c.args.leaves.now.lists c.args.i (omega (arith, c.if-i-eq0.false)) c.requires)
