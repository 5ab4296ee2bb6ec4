use Rattle.vecscript.proofs.Common.{Push, arith, codes, refl, rules}
use Rattle.std.proofs.lemmas.Slice.Eq.{text_from_reads}
use Rattle.vecscript.proofs.Named.{ReadsAs-named}
use Rattle.vecscript.proofs.Table.{SayNamed, read-by-table}
use Rattle.vecscript.proofs.lines.pushed.Goals as goal

pub returns-in-push : goal.returns-in-push
returns-in-push c =
    let read = ReadsAs-named SayNamed _ _ _ (codes "push") (codes "push") c.element.result c.map.result refl Push refl c.element.ensures (search rules) in
    (text_from_reads c.args.name.now (codes "push") (omega arith) (search rules), read-by-table (codes "push") _ _ _ read)
