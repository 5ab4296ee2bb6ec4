use Rattle.std.proofs.Common.{map, length}
use Rattle.ex_small.proofs.Decoding.{IsDecoding}
use Rattle.ex_small.proofs.records.decode.Given as goal

abbrev pub invariant-loop-rest : goal.invariant-loop-rest
invariant-loop-rest g l = IsDecoding l.bytes l.rest (map (λ r. r.now) l.records.items)

abbrev pub decreases-loop-rest : goal.decreases-loop-rest
decreases-loop-rest g l = length l.rest
