use Rattle.allocator_api2.proofs.Common.{◌≡◌, ◌+◌, [], ◌∷◌, length, length-append, arith, ap, rules, ◌∙◌, SameBlock-refl, SameBlock-trans}
use Rattle.allocator_api2.proofs.Runs.{HasRun-start, HasRun-more, HasRun-end}
use Rattle.allocator_api2.proofs.runner.run.Goals as goal

pub loop-command-init : goal.loop-command-init
loop-command-init g c =
    let possible = c.prove_possible.ensures in
    rw c.into_iter-command-iterator.ensures.into_iter_gives
    (search (
      rules,
      HasRun-start,
      c.requires.callable.along possible,
      c.requires.room,
      SameBlock-refl,
    ))

pub loop-command-preserved : goal.loop-command-preserved
loop-command-preserved g c =
    let h = rw c.in-Some.ensures.steps at c.loop-command.invariant in
    let possible = c.prove_possible-in-loop-command.ensures in
    let put = c.push_within.ensures in
    let m : length c.push_within.new.list.items
    ≡ length c.loop-command.replies.items + 1 = ap length put.items
    ∙ length-append c.loop-command.replies.items (c.step-reply.result ∷ []) in
    record {
      run = HasRun-more _ _ h.run c.step-reply.ensures possible put.items;
      callable = h.callable.1 _ _ _ c.step-reply.ensures.step possible;
      room = omega (arith, put.block.capacity, h.room, m);
      stay = SameBlock-trans h.stay put.block;
    }

pub returns-clause-run : goal.returns-clause-run
returns-clause-run g c =
    HasRun-end _ _ (rw c.in-None.ensures.steps.0 at c.loop-command.invariant.run)
