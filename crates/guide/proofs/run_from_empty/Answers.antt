use Rattle.std.proofs.Common.{length, ap, arith, length-append}
use Rattle.allocator_api2.proofs.Added.{blocks-le, grown-le, replies-count}
use Rattle.allocator_api2.proofs.Callable.{IsCallable-any}
use Rattle.guide.proofs.run_from_empty.Goals as goal

pub run-requires-clause-callable : goal.run-requires-clause-callable
run-requires-clause-callable g c = IsCallable-any _ _ (λ k x p e. tt) (λ s x y p q e f. tt) _ _

pub returns-clause-grown : goal.returns-clause-grown
returns-clause-grown g c = rw c.requires.doubling at (grown-le c.run.ensures.run.2 c.requires.empty c.requires.few)

pub returns-clause-blocks : goal.returns-clause-blocks
returns-clause-blocks g c = rw c.requires.doubling at (blocks-le c.run.ensures.run.2 c.requires.empty c.requires.few)

pub returns-clause-replied : goal.returns-clause-replied
returns-clause-replied g c =
    let r = c.run.ensures.run in
    omega (arith, ap length r.1, length-append c.args.replies.now.items r.0, replies-count r.2)
