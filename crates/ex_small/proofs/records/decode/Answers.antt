use Rattle.std.proofs.Common.{sym, arith}
use Rattle.std.proofs.lemmas.Bool.{eqb-true}
use Rattle.ex_small.proofs.Decoding.{no_records, those_records}
use Rattle.ex_small.proofs.records.decode.Goals as goal

pub returns-in_default-clause-round_trip : goal.returns-in_default-clause-round_trip
returns-in_default-clause-round_trip g c = no_records _ _ _ c.loop-rest.invariant (grind arith) c.in_default.ensures.cases

pub returns-clause-round_trip : goal.returns-clause-round_trip
returns-clause-round_trip g c = those_records _ _ _ c.loop-rest.invariant (eqb-true _ _ (sym c.loop-rest-test.ensures))
