use Rattle.std.proofs.Common.{rules, length, ap, ◌∙◌, arith}
use Rattle.std.specs.Iterator.{Drains}
use Rattle.std.specs.Mem.{type_size}
use denote.Param.{param}
use Rattle.allocator_api2.specs.Extend.{LowerAtMost}
use Rattle.aa_inline.specs.Extending.{ExtendsByAll, ExtendFails, with_tail_at}
use Rattle.aa_inline.specs.Inlined.{with_items}
use Rattle.aa_inline.proofs.Bringing.{came-in, done-of, failed-of}
use Rattle.aa_inline.proofs.inline.InlineVec.insert_many.Goals as goal

pub returns-clause-items : goal.returns-clause-items
returns-clause-items g c =
    let old = c.args.self.now.items in
    came-in c.extend-done.result (g.U.IntoIterator.into_iter_gives c.args.iter) (Drains g.U.IntoIter.Iterator.next_gives) old c.extend-done.new.self.items c.move_tail.new.self.items c.args.index c.len-len.result
    (omega (arith, c.requires.within, c.len-len.ensures)) c.len-len.ensures (ap (λ s. s.items) c.move_tail.ensures) c.extend-done.ensures.items

pub returns-clause-inserted : goal.returns-clause-inserted
returns-clause-inserted g c =
    let s = c.extend-done.new.self in let steps = g.U.IntoIter.Iterator.next_gives in let left = g.U.IntoIter.Iterator.remaining in
    let is = c.move_tail.ensures ∙ ap (λ n. with_items s (with_tail_at c.args.index n s.items)) c.len-len.ensures in
    done-of s c.move_tail.new.self (λ x. with_items x (with_tail_at c.args.index (length c.args.self.now.items) x.items)) is c.extend-done.result
    (λ x. (it : g.row.U-IntoIter.Denot) × g.U.IntoIterator.into_iter_gives c.args.iter it × ExtendsByAll steps (LowerAtMost left) (type_size (param 0 g.row.T)) g.row.N it c.args.self.now x) c.extend-done.ensures.extended

pub returns-clause-failed : goal.returns-clause-failed
returns-clause-failed g c =
    let s = c.extend-done.new.self in let steps = g.U.IntoIter.Iterator.next_gives in let left = g.U.IntoIter.Iterator.remaining in
    let is = c.move_tail.ensures ∙ ap (λ n. with_items s (with_tail_at c.args.index n s.items)) c.len-len.ensures in
    failed-of s c.move_tail.new.self (λ x. with_items x (with_tail_at c.args.index (length c.args.self.now.items) x.items)) is c.extend-done.result
    (λ e x. (it : g.row.U-IntoIter.Denot) × g.U.IntoIterator.into_iter_gives c.args.iter it × ExtendFails steps (LowerAtMost left) (type_size (param 0 g.row.T)) g.row.N it c.args.self.now e x) c.extend-done.ensures.failed

pub move_tail-requires : goal.move_tail-requires
move_tail-requires g c = (search rules, search rules)
