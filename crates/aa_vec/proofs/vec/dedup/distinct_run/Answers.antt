use Rattle.aa_vec.proofs.{CallableAtPairMut, CalledAtPairMut, ChainsAlong-end, ChainsAlong-here, HasChained-more, Reached-none, arith, called_between, get_or, neighbours_are, next_pair, refl, rules}
use Rattle.aa_vec.proofs.vec.dedup.distinct_run.Goals as goal

pub same-requires : goal.same-requires
same-requires g c =
    let s = c.split_at_mut-first in
    next_pair (CalledAtPairMut g.F.FnMut) (CallableAtPairMut g.F.FnMut)
    (Reached-none 1 _ _ c.args.same.now c.args.elements.now (omega (arith, c.requires.some))
    c.requires.callable) _ _ _
    (neighbours_are c.args.elements.now s.result.0.now s.result.1.now 0 s.ensures.value
    s.ensures.front_len c.requires.some c.index-first-0.result c.index-others-0.result) _ _ refl
    refl

pub returns-then-same-clause-called : goal.returns-then-same-clause-called
returns-then-same-clause-called g c =
    let s = c.split_at_mut-first in let d = c.index-first-0.result in
    let e = c.index-others-0.result in
    let called : CalledAtPairMut g.F.FnMut c.args.same.now (get_or s.result.1.now 0 e)
    (get_or s.result.0.now 0 d) c.same.result c.same.new.self c.same.new.arg2 c.same.new.arg3 =
    search rules in
    ChainsAlong-here (CalledAtPairMut g.F.FnMut) (CallableAtPairMut g.F.FnMut)
    (Reached-none 1 _ _ c.args.same.now c.args.elements.now (omega (arith, c.requires.some))
    c.requires.callable)
    (called_between (CalledAtPairMut g.F.FnMut)
    (CallableAtPairMut g.F.FnMut) c.args.elements.now s.result.0.now s.result.1.now 0
    s.ensures.value s.ensures.front_len c.requires.some d e called) (search rules)

pub each-init : goal.each-init
each-init g c =
    let s = c.split_at_mut-first in let d = c.index-first-0.result in
    let e = c.index-others-0.result in
    let called : CalledAtPairMut g.F.FnMut c.args.same.now (get_or s.result.1.now 0 e)
    (get_or s.result.0.now 0 d) c.same.result c.same.new.self c.same.new.arg2 c.same.new.arg3 =
    search rules in
    HasChained-more (CalledAtPairMut g.F.FnMut) (CallableAtPairMut g.F.FnMut)
    (Reached-none 1 _ _ c.args.same.now c.args.elements.now (omega (arith, c.requires.some))
    c.requires.callable)
    (called_between (CalledAtPairMut g.F.FnMut)
    (CallableAtPairMut g.F.FnMut) c.args.elements.now s.result.0.now s.result.1.now 0
    s.ensures.value s.ensures.front_len c.requires.some d e called) (search rules)

pub returns-then-same-2-clause-called : goal.returns-then-same-2-clause-called
returns-then-same-2-clause-called g c =
    let s = c.split_at_mut-before in let d = c.index-before-kept.result in
    let e = c.index-after-0.result in
    let called : CalledAtPairMut g.F.FnMut c.each.same (get_or s.result.1.now 0 e)
    (get_or s.result.0.now c.each.kept d) c.same-in-each.result c.same-in-each.new.self
    c.same-in-each.new.arg2 c.same-in-each.new.arg3 = search rules in
    ChainsAlong-here (CalledAtPairMut g.F.FnMut) (CallableAtPairMut g.F.FnMut) c.each.invariant
    (called_between (CalledAtPairMut g.F.FnMut) (CallableAtPairMut g.F.FnMut) c.each.elements
    s.result.0.now s.result.1.now c.each.kept s.ensures.value s.ensures.front_len
    (omega (arith, c.each-test.true, c.each.auto.elements)) d e called) (search rules)

pub each-preserved : goal.each-preserved
each-preserved g c =
    let s = c.split_at_mut-before in let d = c.index-before-kept.result in
    let e = c.index-after-0.result in
    let called : CalledAtPairMut g.F.FnMut c.each.same (get_or s.result.1.now 0 e)
    (get_or s.result.0.now c.each.kept d) c.same-in-each.result c.same-in-each.new.self
    c.same-in-each.new.arg2 c.same-in-each.new.arg3 = search rules in
    HasChained-more (CalledAtPairMut g.F.FnMut) (CallableAtPairMut g.F.FnMut) c.each.invariant
    (called_between (CalledAtPairMut g.F.FnMut) (CallableAtPairMut g.F.FnMut) c.each.elements
    s.result.0.now s.result.1.now c.each.kept s.ensures.value s.ensures.front_len
    (omega (arith, c.each-test.true, c.each.auto.elements)) d e called) (search rules)

pub returns-clause-called : goal.returns-clause-called
returns-clause-called g c =
    ChainsAlong-end (CalledAtPairMut g.F.FnMut) (CallableAtPairMut g.F.FnMut) c.each.invariant
    (omega (arith, c.each-test.false)) (omega (arith, c.each.auto.elements, c.requires.some))
