use Rattle.std.specs.Fn.{Called}
use Rattle.aa_ring.proofs.Filling.{results-more}
use Rattle.aa_ring.proofs.ring.Ring.push_results.Goals as goal

pub each-preserved : goal.each-preserved
each-preserved g c =
    results-more (λ p. g.F.FnMut.pre p tt) (λ p y q. Called g.F.FnMut p tt y q) c.args.count c.args.self.now c.args.f.now c.each._done c.each.self c.each.f c.each-test.true c.each.invariant c.result_of.result c.result_of.new.f c.put_back.new.self c.result_of.ensures c.put_back.ensures
