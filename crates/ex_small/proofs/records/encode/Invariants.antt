use Rattle.std.proofs.Common.{◌≡◌, take, map}
use Rattle.ex_small.specs.Records.{encoding}
use Rattle.ex_small.proofs.records.encode.Given as goal

abbrev pub invariant-loop-entry : goal.invariant-loop-entry
invariant-loop-entry g l = l.bytes.items ≡ encoding (map (λ r. r.now) (take l.entry-index l.records))
