use Rattle.aa_vec.proofs.{ap, arith, few-none, none-fresh, rules}
use Rattle.aa_raw.proofs.Calls.{with_room}
use Rattle.aa_vec.proofs.vec.Vec.split_off.Goals as goal

-- the new block is empty
pub invariant_of-self : goal.invariant_of-self
invariant_of-self g c = record {
  filled = search (rules, with_room);
  few = rw (c.replace.ensures.after, c.in_ok-block.ensures.made)
      (few-none _ 0 _ _ (search (rules, none-fresh))
      (omega (
        arith,
        ap (λ n. n.count) c.replace-then-at-eq0-2.ensures.after,
        c.zero-then-at-eq0.ensures,
      )));
}
