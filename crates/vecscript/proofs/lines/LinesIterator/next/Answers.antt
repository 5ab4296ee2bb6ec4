use Rattle.vecscript.proofs.Common.{arith, nat_tests, ap, length, take_rest}
use Rattle.vecscript.proofs.TextLines.{lines_last, lines_first}
use Rattle.vecscript.proofs.lines.LinesIterator.next.Goals as goal

pub returns-in-empty-clause-steps : goal.returns-in-empty-clause-steps
returns-in-empty-clause-steps c = grind (arith, nat_tests, lines_last c.args.self.now.rest.now)

pub returns-in-len1-up-clause-steps : goal.returns-in-len1-up-clause-steps
returns-in-len1-up-clause-steps c = grind (arith, lines_first c.args.self.now.rest.now, take_rest c.split_at.result.1.now 1)

pub returns-in-len1-up-clause-goes : goal.returns-in-len1-up-clause-goes
returns-in-len1-up-clause-goes c = grind (arith, ap length (returns-in-len1-up-clause-steps c))
