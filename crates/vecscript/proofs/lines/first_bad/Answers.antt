use Rattle.vecscript.proofs.Common.{inl, arith, HasNoBad}
use Rattle.vecscript.proofs.Read.{HasSeen-start, HasSeen-next, HasNoBad-none, HasNoBad-one, HasNoBad-append}
use Rattle.vecscript.proofs.lines.first_bad.Goals as goal

-- no line is seen yet
pub loop-index-init : goal.loop-index-init
loop-index-init c =
    let enumerated = c.enumerate-index-items.ensures in
    let seen = HasSeen-start HasNoBad c.args.text.now HasNoBad-none in
    rw (c.into_iter-index-iterator.ensures.into_iter_gives, enumerated.source, enumerated.count) ((tt, tt, inl (omega arith)), tt, seen)

-- the line that was taken is seen
pub loop-index-preserved : goal.loop-index-preserved
loop-index-preserved c =
    let seen = HasSeen-next HasNoBad HasNoBad _ _ _ _ _ _ c.loop-index.invariant.2 c.in-Some.ensures.steps.0 c.in-Some.ensures.steps.2
    (λ ls all. HasNoBad-append ls _ all (HasNoBad-one c.in-Some.line.now c.if-not-is_good.ensures)) in
    ((tt, tt, inl (omega arith)), tt, seen)
