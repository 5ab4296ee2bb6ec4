use Rattle.aa_vec.proofs.{CallableAtPairMut, CalledAtPairMut, IsWhole-restored, ap, arith, borrowed-is, count, length, rules, there, view_of, ◌<◌}
use Rattle.aa_vec.proofs.Chains.{now_tail, borrowed, ChainsOnTail-more, ChainsOnTail-one, ChainsOnTail-repeat, first_is, may_follow}
use Rattle.aa_vec.proofs.vec.Vec.chain_on_tail.Goals.{else-this-lt2-via-then-this-lt2+else-count-lt2, else-this-lt2-via-else-this-lt2}
use Rattle.aa_vec.proofs.vec.Vec.chain_on_tail.Goals as goal

pub call_on_last-requires-clause-callable : goal.call_on_last-requires-clause-callable
call_on_last-requires-clause-callable g c front last x e next =
    (rw (first_is (CalledAtPairMut g.F.FnMut) c.args.same.now c.args.self.now c.args.gap
    c.args.count (omega (arith, c.requires.least)) c.requires.has_tail x next) at
    (c.requires.callable front last e)).0

pub slice_mut-requires : goal.slice_mut-requires
slice_mut-requires g c =
    let asked = c.call_on_last.ensures in
    let some : 0 < c.args.count = omega (arith, c.requires.least) in
    let has_tail = rw (← c.self.view_is) at
    (now_tail (CalledAtPairMut g.F.FnMut) c.args.same.now c.args.self.now c.args.gap
    c.args.count some c.requires.has_tail c.call_on_last.result _ _ asked) in
    there c.self.inside c.self.invariant.filled c.args.gap c.args.count has_tail

pub distinct_run-requires-clause-some : goal.distinct_run-requires-clause-some
distinct_run-requires-clause-some g c =
    let asked = c.call_on_last.ensures in
    let some : 0 < c.args.count = omega (arith, c.requires.least) in
    let has_tail = rw (← c.self.view_is) at
    (now_tail (CalledAtPairMut g.F.FnMut) c.args.same.now c.args.self.now c.args.gap
    c.args.count some c.requires.has_tail c.call_on_last.result _ _ asked) in
    let are = borrowed-is c.self.inside c.self.invariant.filled c.args.gap c.args.count has_tail
    c.slice_mut.result.now c.slice_mut.result.now c.slice_mut.ensures.value in
    let more : 1 < c.args.count = elim c.else-this-lt2.branch [
      | else-this-lt2-via-then-this-lt2+else-count-lt2 w ↦ omega (arith, w.if-count-lt2.false)
      | else-this-lt2-via-else-this-lt2 w ↦ omega (arith, w.if-this-lt2.false, c.requires.least)
    ] in
    omega (
      arith,
      more,
      ap length are,
      count (view_of c.self.inside) c.args.gap c.args.count has_tail,
    )

pub distinct_run-requires-clause-callable : goal.distinct_run-requires-clause-callable
distinct_run-requires-clause-callable g c =
    let asked = c.call_on_last.ensures in
    let some : 0 < c.args.count = omega (arith, c.requires.least) in
    let has_tail = rw (← c.self.view_is) at
    (now_tail (CalledAtPairMut g.F.FnMut) c.args.same.now c.args.self.now c.args.gap
    c.args.count some c.requires.has_tail c.call_on_last.result _ _ asked) in
    let may = rw (← c.self.view_is) at
    (may_follow (CalledAtPairMut g.F.FnMut) c.args.same.now c.args.self.now c.args.gap
    c.args.count some c.requires.has_tail c.call_on_last.result _ _ asked
    c.if-call_on_last.false (CallableAtPairMut g.F.FnMut)
    (c.requires.callable asked.front asked.last asked.had.0)) in
    rw (← borrowed-is c.self.inside c.self.invariant.filled c.args.gap c.args.count has_tail
    c.slice_mut.result.now c.slice_mut.result.now c.slice_mut.ensures.value) may

pub invariant_of-self : goal.invariant_of-self
invariant_of-self g c =
    let asked = c.call_on_last.ensures in
    let some : 0 < c.args.count = omega (arith, c.requires.least) in
    let has_tail = rw (← c.self.view_is) at
    (now_tail (CalledAtPairMut g.F.FnMut) c.args.same.now c.args.self.now c.args.gap
    c.args.count some c.requires.has_tail c.call_on_last.result _ _ asked) in
    IsWhole-restored c.self.inside c.self.invariant c.args.gap c.args.count has_tail
    c.slice_mut.result.now c.distinct_run.new.elements c.slice_mut.ensures.value

pub returns-then-call_on_last : goal.returns-then-call_on_last
returns-then-call_on_last g c =
    ChainsOnTail-repeat (CalledAtPairMut g.F.FnMut) c.args.same.now c.args.self.now c.args.gap
    c.args.count (omega (arith, c.requires.least)) c.requires.has_tail c.call_on_last.result _ _
    c.call_on_last.ensures c.if-call_on_last.true

pub returns-then-count-lt2 : goal.returns-then-count-lt2
returns-then-count-lt2 g c =
    ChainsOnTail-one (CalledAtPairMut g.F.FnMut) c.args.same.now c.args.self.now c.args.gap
    c.args.count (omega (arith, c.requires.least)) c.requires.has_tail c.call_on_last.result _ _
    c.call_on_last.ensures c.if-call_on_last.false (omega (arith, c.if-count-lt2.true))

pub returns : goal.returns
returns g c =
    let asked = c.call_on_last.ensures in
    let some : 0 < c.args.count = omega (arith, c.requires.least) in
    let has_tail = rw (← c.self.view_is) at
    (now_tail (CalledAtPairMut g.F.FnMut) c.args.same.now c.args.self.now c.args.gap
    c.args.count some c.requires.has_tail c.call_on_last.result _ _ asked) in
    ChainsOnTail-more (CalledAtPairMut g.F.FnMut) c.args.same.now c.args.self.now c.args.gap
    c.args.count some c.requires.has_tail c.call_on_last.result _ _ asked
    c.if-call_on_last.false c.distinct_run.result _ _ (search (rules, borrowed, has_tail))
