use Rattle.aa_vec.proofs.{arith, stage-on}
use Rattle.aa_vec.proofs.Retaining.{first-turn, asked-turn, Retains-ended}
use Rattle.aa_vec.proofs.vec.retain.retain_owned.Goals as goal

pub step_over-requires : goal.step_over-requires
step_over-requires g c =
    let t = first-turn c.set_tail-end.ensures.tail_set c.set_tail-end.ensures.count c.requires
    c.count_kept_in_tail-first.ensures in search (arith, t)

pub returns-then-end-at-clause-retained : goal.returns-then-end-at-clause-retained
returns-then-end-at-clause-retained g c =
    let p = (first-turn c.set_tail-end.ensures.tail_set c.set_tail-end.ensures.count c.requires
    c.count_kept_in_tail-first.ensures).3 _ _ c.step_over.ensures in
    Retains-ended p.0 (omega (arith, p.0.within, c.if-end-at.true))

pub runs-init : goal.runs-init
runs-init g c = let p =
    (first-turn c.set_tail-end.ensures.tail_set c.set_tail-end.ensures.count c.requires
    c.count_kept_in_tail-first.ensures).3 _ _ c.step_over.ensures in (p.0, p.2)

pub count_kept_in_tail-kept-requires : goal.count_kept_in_tail-kept-requires
count_kept_in_tail-kept-requires g c =
    search (arith, stage-on _ _ _ _ _ _ c.runs.invariant.0 c.len.ensures.count, c.runs-test.true)

pub step_over-requires-in-runs : goal.step_over-requires-in-runs
step_over-requires-in-runs g c =
    let t = asked-turn c.runs.invariant.0 c.len.ensures.count c.count_kept_in_tail-kept.ensures in
    search (
      arith,
      t,
      c.runs.invariant.1 (omega (arith, c.runs-test.true)),
      c.len.ensures.count,
      c.runs-test.true,
    )

pub runs-preserved : goal.runs-preserved
runs-preserved g c =
    let p = (asked-turn c.runs.invariant.0 c.len.ensures.count c.count_kept_in_tail-kept.ensures).3
    _ _ c.step_over-in-runs.ensures in (p.0, p.2)

pub runs-smaller : goal.runs-smaller
runs-smaller g c =
    let p = (asked-turn c.runs.invariant.0 c.len.ensures.count c.count_kept_in_tail-kept.ensures).3
    _ _ c.step_over-in-runs.ensures in
    omega (arith, p.1 (omega (arith, c.runs-test.true)), p.0.within)

pub returns-then-end-at-2-clause-retained : goal.returns-then-end-at-2-clause-retained
returns-then-end-at-2-clause-retained g c =
    Retains-ended c.runs.invariant.0 (omega (arith, c.if-end-at-2.true, c.runs.invariant.0.within))

pub step_over-requires-2 : goal.step_over-requires-2
step_over-requires-2 g c =
    let t = asked-turn c.runs.invariant.0 c.len-2.ensures.count c.count_kept_in_tail-rest.ensures in
    search (arith, t, c.runs.invariant.0.here, c.len-2.ensures.count, c.if-end-at-2.false)

pub returns-clause-retained : goal.returns-clause-retained
returns-clause-retained g c =
    let p = (asked-turn c.runs.invariant.0 c.len-2.ensures.count
    c.count_kept_in_tail-rest.ensures).3 _ _ c.step_over-2.ensures in
    Retains-ended p.0
    (omega (arith, p.1 (omega (arith, c.if-end-at-2.false)), p.0.within, c.runs-test.false))
