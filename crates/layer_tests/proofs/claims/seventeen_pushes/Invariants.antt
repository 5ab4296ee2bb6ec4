use Rattle.aa_raw.specs.declared.raw_vec.Growth.TheVariants.{Doubling}
use Rattle.layer_tests.proofs.Claimed.{IsPushed}
use Rattle.layer_tests.proofs.claims.seventeen_pushes.Given as goal

abbrev pub invariant-each : goal.invariant-each
invariant-each g l = IsPushed Doubling l.fn.v l.x l.v
