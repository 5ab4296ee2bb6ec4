use Rattle.std.specs.Mem.{type_size}
use denote.Param.{param}
use Rattle.allocator_api2.specs.Extend.{LowerAtMost}
use Rattle.aa_inline.proofs.Extending.{part_came}
use Rattle.aa_inline.proofs.inline.collect.InlineVecExtend.extend.Goals as goal

pub returns-in-Err-clause-extended : goal.returns-in-Err-clause-extended
returns-in-Err-clause-extended g c =
    let f = c.in-Err.ensures.failed in
    let p = part_came g.U.IntoIter.Iterator.next_gives (type_size (param 0 g.row.T)) g.row.N f.0 c.args.self.now c.extend.new.self (LowerAtMost g.U.IntoIter.Iterator.remaining) c.in-Err.field-0 f.2 in
    (f.0, p.0, f.1, p.1, (p.2, p.3))
