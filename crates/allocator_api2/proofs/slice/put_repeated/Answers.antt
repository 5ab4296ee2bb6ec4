use Rattle.allocator_api2.proofs.Common.{add-mul, ap, arith, length, mul-le-mul_right, ◌+◌, ◌∙◌, ◌≤◌}
use Rattle.allocator_api2.proofs.Repeated.{length-repeat}
use Rattle.allocator_api2.proofs.slice.put_repeated.Goals as goal

pub put_again-requires-clause-room : goal.put_again-requires-clause-room
put_again-requires-clause-room g c =
    let xs = c.args.source.now in let d = c.each.done in let m = c.next_count-more.result in
    let held = c.each.invariant.2 in
    let within : d + m
    ≤ c.args.n = omega (arith, c.next_count-more.ensures.remaining, c.each-test.true) in
    let long = ap length held.items ∙ length-repeat xs d in
    omega (
      arith,
      mul-le-mul_right (length xs) within,
      add-mul d m (length xs),
      long,
      held.block.capacity,
      c.requires.room,
    )
