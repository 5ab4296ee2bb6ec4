use Rattle.std.proofs.Common.{arith, rules}
use Rattle.aa_vec.proofs.TailLemmas.{closing}
use Rattle.aa_vec.proofs.vec.Vec.drop_and_close.Goals as goal

pub returns : goal.returns
returns g c = record {
  becomes = search (rules, closing);
  few = omega (arith, c.drop_from_tail.ensures.few, c.close_gap.ensures.few);
}
