use Rattle.std.proofs.Common.{ap, ◌∙◌, ◌++◌}
use Rattle.allocator_api2.proofs.Callable.{IsCallable-any}
use Rattle.guide.proofs.Pushes.{after_reserve}
use Rattle.guide.proofs.laws.reserve_and_push.Goals as goal

pub run-requires-clause-callable : goal.run-requires-clause-callable
run-requires-clause-callable g c = IsCallable-any _ _ (λ k x p e. tt) (λ s x y p q e f. tt) _ _

pub returns : goal.returns
returns g c =
    let run = c.run.ensures.run in
    let asked = c.requires.ordered in
    let replies = after_reserve run.2.run c.reserved_room_takes_pushes.ensures asked.0 asked.1 in
    (replies.0, replies.1, run.1 ∙ ap (λ l. c.args.replies.now.items ++ l) replies.2, replies.3)
