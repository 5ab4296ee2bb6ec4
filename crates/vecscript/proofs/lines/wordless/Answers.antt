use Rattle.vecscript.proofs.Common.{refl, rules, arith, codes}
use Rattle.std.proofs.lemmas.Slice.Eq.{text_from_reads}
use Rattle.vecscript.proofs.lines.wordless.Goals as goal

pub returns-in-pop : goal.returns-in-pop
returns-in-pop c = rw (text_from_reads c.args.name.now (codes "pop") (omega arith) (search rules)) (refl, refl)

pub returns-in-clear : goal.returns-in-clear
returns-in-clear c = rw (text_from_reads c.args.name.now (codes "clear") (omega arith) (search rules)) (refl, refl)

pub returns-in-dedup : goal.returns-in-dedup
returns-in-dedup c = rw (text_from_reads c.args.name.now (codes "dedup") (omega arith) (search rules)) (refl, refl)

pub returns-in-append : goal.returns-in-append
returns-in-append c = rw (text_from_reads c.args.name.now (codes "append") (omega arith) (search rules)) (refl, refl)

pub returns-in-retain : goal.returns-in-retain
returns-in-retain c = rw (text_from_reads c.args.name.now (codes "retain") (omega arith) (search rules)) (refl, refl)
