use Rattle.std.proofs.lemmas.Result.{IfErr-weaker, on_ok_weaker}
use Rattle.aa_ordered.proofs.Fitting.{fitted, fitted-none, no-more, number-few, number-less, shrunk-resizes}
use Rattle.aa_ordered.proofs.map.OrderedMap.shrink_to_fit.Goals as goal

pub returns-clause-fits : goal.returns-clause-fits
returns-clause-fits g c h = c.shrink_to.ensures.sufficient (no-more c.self.inside.leaves c.args.self.now c.self.view_is c.prove_bounds.ensures.lists h)

pub returns-clause-shrunk : goal.returns-clause-shrunk
returns-clause-shrunk g c = on_ok_weaker c.shrink_to.result (fitted c.self.inside.leaves c.args.self.now c.self.view_is c.self.invariant.balanced c.shrink_to.new.self) c.shrink_to.ensures.shrunk

pub returns-clause-none : goal.returns-clause-none
returns-clause-none g c = on_ok_weaker c.shrink_to.result (fitted-none c.self.inside.leaves c.args.self.now c.self.view_is c.self.invariant.balanced c.shrink_to.new.self) c.shrink_to.ensures.shrunk

pub returns-clause-error : goal.returns-clause-error
returns-clause-error g c = IfErr-weaker c.shrink_to.result _ _ (number-few c.self.inside.leaves c.args.self.now c.self.view_is c.self.invariant.balanced c.prove_bounds.ensures.lists) c.shrink_to.ensures.error

pub returns-clause-fewer : goal.returns-clause-fewer
returns-clause-fewer g c = number-less c.self.inside.leaves c.args.self.now c.self.view_is c.self.invariant.balanced c.prove_bounds.ensures.lists c.shrink_to.result c.shrink_to.ensures.sufficient c.shrink_to.ensures.error

pub returns-clause-resizes : goal.returns-clause-resizes
returns-clause-resizes g c = shrunk-resizes c.self.inside.leaves c.args.self.now c.self.view_is c.shrink_to.new.self _ c.shrink_to.result c.shrink_to.ensures.shrunk c.shrink_to.ensures.unchanged
