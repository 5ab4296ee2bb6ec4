use Rattle.std.proofs.Common.{arith}
use Rattle.aa_allocators.proofs.Rounding.{enough, is_rounded, rounded_exactly}
use Rattle.aa_allocators.proofs.rounded.ClassesLayer.size_for.Goals as goal

pub returns-clause-value : goal.returns-clause-value
returns-clause-value c =
    let e = rounded_exactly c.args.size c.rounded_size.result c.rounded_size.ensures in (omega (arith, e), e)

pub returns-clause-sufficient : goal.returns-clause-sufficient
returns-clause-sufficient c = enough c.args.size _ (is_rounded c.args.size)
