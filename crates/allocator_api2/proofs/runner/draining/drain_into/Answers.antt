use Rattle.std.proofs.Common.{rules, ◌∙◌}
use Rattle.allocator_api2.proofs.Taking.{Drained-dropped, Drained-kept}
use Rattle.allocator_api2.proofs.runner.draining.drain_into.Goals as goal

pub returns-then-taking : goal.returns-then-taking
returns-then-taking g c =
    let r = c.requires.range in let f = c.take_front in let b = c.take_back in
    let done = Drained-kept _ _ _ _ _ _ r.0 r.1 r.2 _ _ _ _ _ c.drain-items.ensures.drained
    f.ensures b.ensures _ c.keep_rest.ensures c.if-taking.true in
    let lender = b.ensures.keeps.lender ∙ f.ensures.keeps.lender in
    search rules

pub returns-else-taking : goal.returns-else-taking
returns-else-taking g c =
    let r = c.requires.range in let f = c.take_front in let b = c.take_back in
    let done = Drained-dropped _ _ _ _ _ _ r.0 r.1 r.2 _ _ _ _ _ c.drain-items.ensures.drained
    f.ensures b.ensures _ c.drop-items.ensures c.if-taking.false in
    let lender = b.ensures.keeps.lender ∙ f.ensures.keeps.lender in
    search rules
