use Rattle.std.proofs.Common.{arith, inl, inr}
use Rattle.std.proofs.lemmas.Bool.{cases_lt}
use Rattle.aa_table.proofs.Moving.{past}
use Rattle.aa_table.proofs.table.drain.taken_from.Goals as goal

pub returns-clause-none : goal.returns-clause-none
returns-clause-none c = λ s a. elim (cases_lt s c.each.slot) [
  | inl l ↦ c.each.invariant s a l
  | inr m ↦ past c.args.tags.now s (omega (arith, c.each-test.false, m))
]
