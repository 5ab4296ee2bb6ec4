use Rattle.std.proofs.Common.{◌≡◌, ◌+◌, ◌-◌, length, inr, arith}
use Rattle.std.specs.Fn.{FnOnceReturnsAtMut, FnOnceTakesAtMut}
use Rattle.aa_inline.proofs.Sifting.{left-if, may-test, popped-if}
use Rattle.aa_inline.proofs.inline.InlineVec.pop_if.Goals as goal

pub call_once_on-requires : goal.call_once_on-requires
call_once_on-requires g c =
    let xs = c.args.self.now.items in let i = c.len-len.result - 1 in
    let last : i + 1 ≡ length xs = grind (arith, c.len-len.ensures, c.if-len-eq0.false) in
    may-test xs i c.item_mut.result.now last c.item_mut.ensures.value (FnOnceTakesAtMut g.F.FnOnce c.args.predicate) c.requires

pub returns-then-call_once_on-clause-popped : goal.returns-then-call_once_on-clause-popped
returns-then-call_once_on-clause-popped g c =
    let xs = c.args.self.now.items in let i = c.len-len.result - 1 in
    let last : i + 1 ≡ length xs = grind (arith, c.len-len.ensures, c.if-len-eq0.false) in
    inr (popped-if xs i c.item_mut.result.now last c.item_mut.ensures.value (FnOnceReturnsAtMut g.F.FnOnce) c.args.predicate c.call_once_on.new.item c.pop.new.self.items c.pop.result c.if-call_once_on.ensures c.pop.ensures.taken)

pub returns-clause-popped : goal.returns-clause-popped
returns-clause-popped g c =
    let xs = c.args.self.now.items in let i = c.len-len.result - 1 in
    let last : i + 1 ≡ length xs = grind (arith, c.len-len.ensures, c.if-len-eq0.false) in
    inr (left-if xs i c.item_mut.result.now last c.item_mut.ensures.value (FnOnceReturnsAtMut g.F.FnOnce) c.args.predicate c.call_once_on.new.item c.if-call_once_on.ensures)
