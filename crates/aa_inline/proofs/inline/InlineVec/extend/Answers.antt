use Rattle.std.proofs.Common.{length, rules, inl, ap, arith}
use Rattle.std.specs.Mem.{type_size}
use denote.Param.{param}
use Rattle.allocator_api2.specs.Extend.{LowerAtMost}
use Rattle.aa_inline.proofs.Extending.{came_after, all_came, ran_after, stopped}
use Rattle.aa_inline.proofs.inline.InlineVec.extend.Goals as goal

pub returns-in-Err-clause-failed : goal.returns-in-Err-clause-failed
returns-in-Err-clause-failed g c =
    let it = c.into_iter-items in
    (it.result, it.ensures.into_iter_gives, record { bound = c.size_hint-bound.result.0; is_lower = c.size_hint-bound.ensures.lower; why = inl (c.in-Err.ensures.error, c.in-Err.ensures.unchanged) })

pub push_items-requires : goal.push_items-requires
push_items-requires g c = let it = c.into_iter-items in (search rules, c.requires.finite it.result it.ensures.into_iter_gives)

pub returns-clause-items : goal.returns-clause-items
returns-clause-items g c =
    let it = c.into_iter-items in
    came_after g.U.IntoIterator.into_iter_gives g.U.IntoIter.Iterator.next_gives (type_size (param 0 g.row.T)) g.row.N c.args.iter it.result it.ensures.into_iter_gives c.args.self.now c.reserve.new.self c.push_items.new.self
    c.push_items.result c.in_default.ensures.items c.push_items.ensures.put

pub returns-clause-runs : goal.returns-clause-runs
returns-clause-runs g c =
    let it = c.into_iter-items in
    ran_after g.U.IntoIterator.into_iter_gives g.U.IntoIter.Iterator.next_gives (type_size (param 0 g.row.T)) g.row.N c.args.iter it.result it.ensures.into_iter_gives c.args.self.now c.reserve.new.self c.push_items.new.self
    c.push_items.result c.in_default.ensures.items c.push_items.ensures.put

pub returns-clause-kept : goal.returns-clause-kept
returns-clause-kept g c = omega (arith, c.push_items.ensures.kept, ap length c.in_default.ensures.items)

pub returns-clause-extended : goal.returns-clause-extended
returns-clause-extended g c =
    let it = c.into_iter-items in
    all_came g.U.IntoIterator.into_iter_gives g.U.IntoIter.Iterator.next_gives (type_size (param 0 g.row.T)) g.row.N c.args.iter it.result it.ensures.into_iter_gives c.args.self.now c.reserve.new.self c.push_items.new.self
    (LowerAtMost g.U.IntoIter.Iterator.remaining) c.size_hint-bound.result.0 c.size_hint-bound.ensures.lower c.in_default.ensures.reserved c.push_items.result c.push_items.ensures.put

pub returns-clause-failed : goal.returns-clause-failed
returns-clause-failed g c =
    let it = c.into_iter-items in
    stopped g.U.IntoIterator.into_iter_gives g.U.IntoIter.Iterator.next_gives (type_size (param 0 g.row.T)) g.row.N c.args.iter it.result it.ensures.into_iter_gives c.args.self.now c.reserve.new.self c.push_items.new.self
    (LowerAtMost g.U.IntoIter.Iterator.remaining) c.size_hint-bound.result.0 c.size_hint-bound.ensures.lower c.in_default.ensures.reserved c.push_items.result c.push_items.ensures.failed
