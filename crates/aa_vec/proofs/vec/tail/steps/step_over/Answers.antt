use Rattle.aa_vec.proofs.{HasTail, arith, closes_none, first_tail, others_first, refl, subst, sym, takes_next, takes_none, ◌-◌}
use Rattle.aa_vec.proofs.vec.tail.steps.step_over.Goals.{then-kept-eq2, else-kept-eq2}
use Rattle.aa_vec.proofs.vec.tail.steps.step_over.Goals as goal

pub take_from_tail-requires : goal.take_from_tail-requires
take_from_tail-requires g c = others_first c.close_gap_by_one.ensures (c.args.end - c.args.at)
    (subst (λ n. HasTail c.args.list (c.args.at - n) (c.args.end - c.args.at))
    (sym c.len.ensures.count) c.requires.has_tail)
    (omega (arith, c.requires.least, c.if-this-gt1.true))

pub returns-then-kept-eq1 : goal.returns-then-kept-eq1
returns-then-kept-eq1 g c =
    rw (← c.len.ensures.count)
    (takes_next c.close_gap_by_one.ensures c.if-kept-eq1.true c.take_from_tail.ensures.after
    (omega (arith, c.requires.least, c.if-this-gt1.true)) (omega arith))

pub returns-then-kept-eq0 : goal.returns-then-kept-eq0
returns-then-kept-eq0 g c =
    rw (← c.len.ensures.count)
    (takes_next (closes_none c.args.list (c.args.at - c.len.result)) c.if-kept-eq0.true
    c.take_from_tail-then-kept-eq0.ensures.after
    (omega (arith, c.requires.least, c.if-this-gt1-2.true)) (omega arith))

pub close_gap-requires : goal.close_gap-requires
close_gap-requires g c = first_tail c.args.list (c.args.at - c.len.result) (c.args.end - c.args.at)
    (subst (λ n. HasTail c.args.list (c.args.at - n) (c.args.end - c.args.at))
    (sym c.len.ensures.count) c.requires.has_tail) 2
    (omega (arith, c.requires.within, c.if-kept-eq2.true))

pub returns-then-end-at : goal.returns-then-end-at
returns-then-end-at g c = rw (← c.len.ensures.count) (elim c.if-kept-eq2.branch [
  | then-kept-eq2 w ↦ rw w.list-is
      (takes_none w.close_gap.ensures w.if-kept-eq2.true
      (omega (arith, w.if-kept-eq2.true, c.if-end-at.true)))
  | else-kept-eq2 w ↦ rw w.list-is
      (takes_none w.close_gap-else-kept-eq2.ensures refl c.if-end-at.true)
])

pub take_from_tail-requires-2 : goal.take_from_tail-requires-2
take_from_tail-requires-2 g c =
    let has_tail = (subst (λ n. HasTail c.args.list (c.args.at - n) (c.args.end - c.args.at))
    (sym c.len.ensures.count) c.requires.has_tail) in
    elim c.if-kept-eq2.branch [
      | then-kept-eq2 w ↦ rw w.list-is
          (others_first w.close_gap.ensures (c.args.end - c.args.at) has_tail
          (omega (arith, c.if-end-at.false, w.if-kept-eq2.true)))
      | else-kept-eq2 w ↦ rw w.list-is
          (others_first w.close_gap-else-kept-eq2.ensures (c.args.end - c.args.at) has_tail
          (omega (arith, c.if-end-at.false)))
    ]

pub returns : goal.returns
returns g c = rw (← c.len.ensures.count) (elim c.if-kept-eq2.branch [
  | then-kept-eq2 w ↦ takes_next w.close_gap.ensures w.if-kept-eq2.true
      (rw w.list-is at c.take_from_tail-2.ensures.after)
      (omega (arith, w.if-kept-eq2.true, c.if-end-at.false)) (omega (arith, w.if-kept-eq2.true))
  | else-kept-eq2 w ↦ takes_next w.close_gap-else-kept-eq2.ensures refl
      (rw w.list-is at c.take_from_tail-2.ensures.after) c.if-end-at.false refl
])
