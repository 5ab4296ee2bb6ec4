use Rattle.aa_raw.specs.declared.raw_vec.Growth.TheVariants.{Sparing}
use Rattle.layer_tests.proofs.Claimed.{IsPushed}
use Rattle.layer_tests.proofs.claims.fifteen_sparing_pushes.Given as goal

abbrev pub invariant-each : goal.invariant-each
invariant-each g l = IsPushed Sparing l.fn.v l.x l.v
