use Rattle.std.proofs.Common.{arith}
use Rattle.layer_tests.proofs.Claimed.{fifteen_pushed}
use Rattle.layer_tests.proofs.claims.fifteen_sparing_pushes.Goals as goal

pub returns : goal.returns
returns g c = fifteen_pushed c.args.v.now c.each.v c.each.x c.each.invariant (omega (arith, c.each-test.false, c.each.auto.x-end))
