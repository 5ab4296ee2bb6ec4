use Rattle.vecscript.proofs.Common.{◌+◌, arith}
use Rattle.vecscript.proofs.TextLines.{lines_cut}
use Rattle.vecscript.proofs.lines.first_lines.Goals as goal

-- it is cut after the first line feed from there on
pub returns-then-end-text-clause-lines : goal.returns-then-end-text-clause-lines
returns-then-end-text-clause-lines c = grind (arith, lines_cut c.args.text.now c.min-least.result (c.min-least.result + c.line_length.result))
