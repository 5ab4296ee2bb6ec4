use Rattle.aa_vec.proofs.Common.{arith, err_from_is_err_and}
use Rattle.aa_vec.proofs.Replacing.{Puts-none, Puts-within, Puts-rest}
use Rattle.aa_vec.proofs.vec.Vec.put_more.Goals as goal

pub returns-in_err-widen : goal.returns-in_err-widen
returns-in_err-widen g c =
    let p = err_from_is_err_and c.from_residual.result c.from_residual.ensures.1 in
    let r = c.in_err-widen.ensures.failed in
    rw (p.1, p.2, r.1)
    (Puts-none _ _ _ _ _ c.args.self.now (g.W.LowerBound.some _) c.args.bound c.args.count _
    r.0)

pub returns-then-fill_and_close-ne0 : goal.returns-then-fill_and_close-ne0
returns-then-fill_and_close-ne0 g c =
    let f = c.fill_and_close.ensures.filled in
    Puts-within _ _ _ _ _ c.args.self.now c.args.bound c.args.count c.requires.count.1
    c.widen.new.self c.in_ok-widen.ensures.widened _ _ c.fill_and_close.new.self f _
    (f.stops.ended (omega (arith, c.if-fill_and_close-ne0.true)))

pub returns-in-Some : goal.returns-in-Some
returns-in-Some g c =
    let goes = c.fill_and_close.ensures.advanced c.if-fill_and_close-ne0.false in
    Puts-rest _ _ _ _ _ c.args.self.now c.args.bound c.args.count c.requires.count.1
    c.widen.new.self c.in_ok-widen.ensures.widened _ _ c.fill_and_close.new.self
    c.fill_and_close.ensures.filled c.if-fill_and_close-ne0.false c.in-Some.first _
    c.in-Some.ensures.steps (λ a. ¬ (g.A.Clone.is_infallible a)) g.W.LowerBound.some
    c.put_rest.result c.put_rest.new.self _
    c.put_rest.ensures.inserted c.put_rest.ensures.failed
    (omega (arith, goes.2, (c.in-Some.ensures.goes.on goes.1).2))

pub returns-in-None : goal.returns-in-None
returns-in-None g c =
    let f = c.fill_and_close.ensures.filled in
    Puts-within _ _ _ _ _ c.args.self.now c.args.bound c.args.count c.requires.count.1
    c.widen.new.self c.in_ok-widen.ensures.widened _ _ c.fill_and_close.new.self f _
    (rw (f.stops.full c.if-fill_and_close-ne0.false) at c.in-None.ensures.steps)
