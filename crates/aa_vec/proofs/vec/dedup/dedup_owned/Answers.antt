use Rattle.aa_vec.proofs.{arith, stage-on}
use Rattle.aa_vec.proofs.Deduplicating.{chained-start, chained-turn, Deduplicates-ended}
use Rattle.aa_vec.proofs.vec.dedup.dedup_owned.Goals as goal

pub chain_on_tail-first-requires : goal.chain_on_tail-first-requires
chain_on_tail-first-requires g c =
    let s = chained-start c.set_tail-left.result c.set_tail-left.ensures.tail_set
    c.set_tail-left.ensures.count c.len-end.ensures.count c.requires in
    search (arith, stage-on _ _ _ _ _ _ s.0 s.1, c.if-end-lt2.false)

pub step_over-requires : goal.step_over-requires
step_over-requires g c =
    let s = chained-start c.set_tail-left.result c.set_tail-left.ensures.tail_set
    c.set_tail-left.ensures.count c.len-end.ensures.count c.requires in
    let t = chained-turn s.0 s.1 c.chain_on_tail-first.ensures in
    search (arith, t, c.if-end-lt2.false)

pub runs-init : goal.runs-init
runs-init g c = let s = chained-start c.set_tail-left.result c.set_tail-left.ensures.tail_set
    c.set_tail-left.ensures.count c.len-end.ensures.count c.requires in
    let p = (chained-turn s.0 s.1 c.chain_on_tail-first.ensures).3 _ _ c.step_over.ensures in
    (p.0, p.2)

pub chain_on_tail-kept-requires : goal.chain_on_tail-kept-requires
chain_on_tail-kept-requires g c =
    search (arith, stage-on _ _ _ _ _ _ c.runs.invariant.0 c.len.ensures.count, c.runs-test.true)

pub step_over-requires-in-runs : goal.step_over-requires-in-runs
step_over-requires-in-runs g c =
    let t = chained-turn c.runs.invariant.0 c.len.ensures.count c.chain_on_tail-kept.ensures in
    search (
      arith,
      t,
      c.runs.invariant.1 (omega (arith, c.runs-test.true)),
      c.len.ensures.count,
      c.runs-test.true,
    )

pub runs-preserved : goal.runs-preserved
runs-preserved g c =
    let p = (chained-turn c.runs.invariant.0 c.len.ensures.count c.chain_on_tail-kept.ensures).3 _ _
    c.step_over-in-runs.ensures in (p.0, p.2)

pub runs-smaller : goal.runs-smaller
runs-smaller g c =
    let p = (chained-turn c.runs.invariant.0 c.len.ensures.count c.chain_on_tail-kept.ensures).3 _ _
    c.step_over-in-runs.ensures in
    omega (arith, p.1 (omega (arith, c.runs-test.true)), p.0.within)

pub returns-then-end-at-clause-removed : goal.returns-then-end-at-clause-removed
returns-then-end-at-clause-removed g c =
    Deduplicates-ended c.runs.invariant.0
    (omega (arith, c.if-end-at.true, c.runs.invariant.0.within)) c.len-end.ensures.count

pub chain_on_tail-rest-requires : goal.chain_on_tail-rest-requires
chain_on_tail-rest-requires g c =
    search (arith, stage-on _ _ _ _ _ _ c.runs.invariant.0 c.len-2.ensures.count, c.if-end-at.false)

pub step_over-requires-2 : goal.step_over-requires-2
step_over-requires-2 g c =
    let t = chained-turn c.runs.invariant.0 c.len-2.ensures.count c.chain_on_tail-rest.ensures in
    search (arith, t, c.runs.invariant.0.here, c.len-2.ensures.count, c.if-end-at.false)

pub returns-clause-removed : goal.returns-clause-removed
returns-clause-removed g c =
    let p = (chained-turn c.runs.invariant.0 c.len-2.ensures.count c.chain_on_tail-rest.ensures).3 _
    _ c.step_over-2.ensures in
    Deduplicates-ended p.0
    (omega (arith, p.1 (omega (arith, c.if-end-at.false)), p.0.within, c.runs-test.false))
    c.len-end.ensures.count
