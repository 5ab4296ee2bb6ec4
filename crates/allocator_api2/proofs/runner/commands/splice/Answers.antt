use Rattle.allocator_api2.proofs.Common.{rules}
use Rattle.aa_vec.specs.Splice.{splice_range, splice_iter}
use Rattle.allocator_api2.proofs.SpliceRanges.{Spliced-done, Spliced-failed}
use Rattle.allocator_api2.proofs.runner.commands.splice.Goals as goal

pub returns-in-Ok : goal.returns-in-Ok
returns-in-Ok g c = λ side.
    let s = c.splice-splice.result in
    let done = Spliced-done _ c.args.main.now c.args.range.start c.args.range.end (search rules)
    (search rules) c.args.items c.args.hint (splice_range s) c.splice-splice.ensures.drained
    (splice_iter s) (search rules) c.finish_hinted.new.self.0
    {sure = g.A.Clone.is_infallible c.args.main.now.alloc} c.in-Ok.ensures.replaced.spliced
    c.finish_hinted.ensures.replaced.writes side in
    search rules

pub returns-in-Err : goal.returns-in-Err
returns-in-Err g c = λ side.
    let s = c.splice-splice.result in
    let refused = Spliced-failed _ c.args.main.now c.args.range.start c.args.range.end
    (search rules) (search rules) c.args.items c.args.hint
    (splice_range s) c.splice-splice.ensures.drained (splice_iter s)
    (search rules) c.finish_hinted.new.self.0 g.A.Clone.is_infallible c.in-Err.error
    c.kind.result c.kind.ensures c.in-Err.ensures.replaced.error
    c.finish_hinted.ensures.replaced.writes side in
    search rules
