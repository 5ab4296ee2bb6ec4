use Rattle.aa_vec.proofs.Common.{◌-◌, ◌<◌, arith, length-run, run-zero, ⊤}
use Rattle.aa_vec.proofs.TailLemmas.{dropped_are, dropped_tail}
use Rattle.aa_vec.proofs.SpliceLemmas.{Spliced-extended, Spliced-ended, Spliced-more, filled_len}
use Rattle.aa_vec.proofs.vec.splice.Splice.finish_parts.Goals as goal

-- nothing is after the range
pub returns-then-count-eq0 : goal.returns-then-count-eq0
returns-then-count-eq0 g c =
    let d = c.drop_from_tail.ensures in let e = c.extend_with_bound.ensures in
    let x = Spliced-extended g.I.Iterator _ g.W.LowerBound.some (λ a. ¬ (g.A.Clone.is_infallible a))
    _ _ c.args.vec.now c.args.gap.end _ _ _ c.extend_with_bound.new.self
    (omega (arith, c.requires.has_tail.1.0)) (rw d.same at e.fits) (rw d.same at e.extended) in
    rw (c.if-count-eq0.true, run-zero) x

pub fill_and_close-requires-clause-has_tail : goal.fill_and_close-requires-clause-has_tail
fill_and_close-requires-clause-has_tail g c =
    let a = c.args in
    dropped_tail a.vec.now c.drop_from_tail.new.self a.vec.now a.gap.front
    (a.gap.back - a.gap.front) a.gap.end (a.gap.total - a.gap.end)
    (omega (arith, c.requires.ordered)) c.drop_from_tail.ensures c.requires.has_tail.1

-- the items ended in the gap
pub returns-then-fill_and_close-ne0 : goal.returns-then-fill_and_close-ne0
returns-then-fill_and_close-ne0 g c =
    let a = c.args in let d = c.drop_from_tail.ensures in
    let kept = dropped_are a.vec.now c.drop_from_tail.new.self a.vec.now a.gap.front
    (a.gap.back - a.gap.front) a.gap.end (a.gap.total - a.gap.end)
    (omega (arith, c.requires.ordered)) d in
    Spliced-ended g.I.Iterator _ g.W.LowerBound.some (λ a. ¬ (g.A.Clone.is_infallible a)) _ _
    a.vec.now _ _ _ _ kept (length-run _ 0 _ c.requires.has_tail.1.1)
    (omega (arith, c.if-count-eq0.false)) _ _ c.fill_and_close.new.self
    (rw d.same at c.fill_and_close.ensures.filled) (omega (arith, c.if-fill_and_close-ne0.true))

pub put_more-requires-clause-count : goal.put_more-requires-clause-count
put_more-requires-clause-count g c =
    let a = c.args in let d = c.drop_from_tail.ensures in
    let some : 0 < a.gap.total - a.gap.end = omega (arith, c.if-count-eq0.false) in
    let kept = dropped_are a.vec.now c.drop_from_tail.new.self a.vec.now a.gap.front
    (a.gap.back - a.gap.front) a.gap.end (a.gap.total - a.gap.end)
    (omega (arith, c.requires.ordered)) d in (
      some,
      filled_len g.I.Iterator g.W.LowerBound.lower_is g.W.LowerBound.some
          (λ _. ⊤) 0 _ a.vec.now _ _ _ _ kept (length-run _ 0 _ c.requires.has_tail.1.1) some _ _
          c.fill_and_close.new.self (rw d.same at c.fill_and_close.ensures.filled),
    )

-- the gap is full
pub returns : goal.returns
returns g c =
    let a = c.args in let d = c.drop_from_tail.ensures in
    let full = c.if-fill_and_close-ne0.false in
    let kept = dropped_are a.vec.now c.drop_from_tail.new.self a.vec.now a.gap.front
    (a.gap.back - a.gap.front) a.gap.end (a.gap.total - a.gap.end)
    (omega (arith, c.requires.ordered)) d in
    Spliced-more g.I.Iterator _ g.W.LowerBound.some (λ a. ¬ (g.A.Clone.is_infallible a)) _ _
    a.vec.now _ _ _ _ kept (length-run _ 0 _ c.requires.has_tail.1.1)
    (omega (arith, c.if-count-eq0.false)) _ _ c.fill_and_close.new.self
    (rw d.same at c.fill_and_close.ensures.filled) full c.lower_bound-bound.result
    c.lower_bound-bound.ensures _ c.put_more.result c.put_more.new.self c.put_more.ensures
    (c.fill_and_close.ensures.advanced full).1 (c.fill_and_close.ensures.advanced full).2
