use Rattle.aa_vec.proofs.{Placed-put, Placed-start, arith}
use Rattle.aa_vec.proofs.vec.tail.gap.with_gap_filled.Goals as goal

pub loop-left-init : goal.loop-left-init
loop-left-init g c =
    record {
      can = c.requires.callable;
      finite = c.requires.finite;
      placed = Placed-start _ _ _ _ _ c.requires.has_tail;
      fewer = omega arith;
    }

pub loop-left-preserved : goal.loop-left-preserved
loop-left-preserved g c =
    let i = c.loop-left.invariant in let on = c.in-Some.ensures.goes.on i.finite in
    let placed = Placed-put _ _ _ _ _ _ _ c.loop-left.list i.placed
    (omega (arith, c.loop-left-test.true)) c.in-Some.x _ c.in-Some.ensures.steps
    c.put_next.new.self c.put_next.ensures.put c.put_next.ensures.spare in
    search (arith, on, placed, i.fewer, c.loop-left-test.true)
