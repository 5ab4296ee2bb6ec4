use Rattle.std.proofs.Common.{arith}
use Rattle.layer_tests.proofs.Claimed.{seventeen_pushed}
use Rattle.layer_tests.proofs.claims.seventeen_pushes.Goals as goal

pub returns : goal.returns
returns g c = seventeen_pushed c.args.v.now c.each.v c.each.x c.each.invariant (omega (arith, c.each-test.false, c.each.auto.x-end))
