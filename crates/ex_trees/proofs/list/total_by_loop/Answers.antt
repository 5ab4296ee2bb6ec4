use Rattle.std.proofs.Common.{arith}
use Rattle.ex_trees.proofs.Lasts.{sum_out}
use Rattle.ex_trees.proofs.list.total_by_loop.Goals as goal

pub overflow_add-sum : goal.overflow_add-sum
overflow_add-sum g c =
    let more = sum_out c.down.rest.now c.in-Some.node c.deref.result.now c.deref.result.now c.in-Some.is c.deref.ensures c.deref.ensures in
    omega (arith, c.requires, c.down.invariant, more)

pub down-preserved : goal.down-preserved
down-preserved g c =
    let more = sum_out c.down.rest.now c.in-Some.node c.deref.result.now c.deref-in-Some.result.now c.in-Some.is c.deref.ensures c.deref-in-Some.ensures in
    omega (arith, c.down.invariant, more)
