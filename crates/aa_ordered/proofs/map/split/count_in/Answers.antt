use Rattle.std.proofs.Common.{rules, ◌+◌, ◌<◌, ◌^◌, ap, arith, length}
use Rattle.aa_ordered.proofs.Splitting.{count-small}
use Rattle.aa_ordered.proofs.map.split.count_in.Goals as goal

pub overflow_add-count : goal.overflow_add-count
overflow_add-count g c =
    let ls = c.args.leaves.now.lists in let inv = c.each.invariant in
    let here : c.each.i < length ls = omega (arith, c.each-test.true, c.requires) in
    let small : c.each.count + length c.list.result.now < 2 ^ 64
    = omega (arith, inv.counted, ap length c.list.ensures.list, count-small ls c.each.i here c.args.leaves.now.room c.prove_bounds.ensures.lists c.prove_bounds.ensures.within c.prove_bounds.ensures.room) in
    search (rules, small)
