use Rattle.std.proofs.Common.{arith}
use Rattle.ex_small.proofs.Decoding.{cut_off}
use Rattle.ex_small.proofs.records.next_record.Goals as goal

pub returns-clause-cases : goal.returns-clause-cases
returns-clause-cases c = (
  cut_off c.args.bytes.now c.in-Some.head.now c.in-Some.tail.now c.split_at.result.0.now c.split_at.result.1.now c.from_le_bytes-count.result
      (λ i. omega (arith, c.type_inv.bytes i)) (omega (arith, c.in-Some.ensures.cases.2)) c.in-Some.ensures.cases.0 c.in-Some.ensures.cases.1 c.from_le_bytes-count.ensures c.split_at.ensures.front_len c.split_at.ensures.by_index.0,
  omega (arith, c.from_le_bytes-count.type_inv),
)
