use Rattle.aa_ring.proofs.Filling.{same-none, same-more}
use Rattle.aa_ring.proofs.ring.Ring.push_same.Goals as goal

pub each-init : goal.each-init
each-init g c = same-none g.T.Clone.is_clone c.args.value.now c.args.count c.args.self.now c.requires

pub each-preserved : goal.each-preserved
each-preserved g c =
    same-more g.T.Clone.is_clone c.args.value.now c.args.count c.args.self.now c.each._done c.each.self c.put_back.new.self c.in-Ok.copy c.each-test.true c.each.invariant c.in-Ok.ensures.cases c.put_back.ensures
