use Rattle.std.specs.List.{prefix_len}
use Rattle.vecscript.proofs.Common.{arith, nat_tests, length-drop, is_blank}
use Rattle.vecscript.proofs.Words.{word_or_end}
use Rattle.vecscript.proofs.lines.words.Words.is_empty.Goals as goal

pub returns : goal.returns
returns c = let xs = c.args.self.now.rest.now in grind (arith, nat_tests, word_or_end xs, length-drop (prefix_len is_blank xs) xs)
