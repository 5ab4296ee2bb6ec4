use Rattle.std.proofs.Common.{ap, arith, length, sym, ◌∙◌}
use Rattle.aa_ordered.proofs.Balance.{first-drop}
use Rattle.aa_ordered.proofs.map.spots.len_from.Goals as goal

pub returns-then-i-len-clause-len : goal.returns-then-i-len-clause-len
returns-then-i-len-clause-len g c = ap length c.list.ensures.list ∙ sym (first-drop c.args.leaves.now.lists c.args.i (omega (arith, c.if-i-len.true, c.len.ensures.count)))
