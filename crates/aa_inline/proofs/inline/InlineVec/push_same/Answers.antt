use Rattle.aa_inline.proofs.Filling.{same-none, same-more}
use Rattle.aa_inline.proofs.inline.InlineVec.push_same.Goals as goal

pub each-init : goal.each-init
each-init g c = same-none g.row.N g.T.Clone.is_clone c.args.value.now c.args.count c.args.self.now c.requires

pub each-preserved : goal.each-preserved
each-preserved g c =
    same-more g.row.N g.T.Clone.is_clone c.args.value.now c.args.count c.args.self.now c.each._done c.each.self c.put_last.new.self c.in-Ok.copy c.each-test.true c.each.invariant c.in-Ok.ensures.cases c.put_last.ensures
