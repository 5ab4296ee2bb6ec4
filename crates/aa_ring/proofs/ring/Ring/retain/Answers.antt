use Rattle.std.proofs.Common.{rules}
use Rattle.std.specs.Fn.{TakesAt}
use Rattle.allocator_api2.specs.Choosing.{Reads}
use Rattle.aa_ring.proofs.Retaining.{callable-on, kept-all, retains-on}
use Rattle.aa_ring.proofs.ring.Ring.retain.Goals as goal

pub retain_by-requires : goal.retain_by-requires
retain_by-requires g c = callable-on (λ q. q.0) _ (Reads g.F.FnMut) (λ q x answer r y a. search rules) _ (TakesAt g.F.FnMut) (λ q x may. search rules) _ c.args.self.now.items c.requires

pub returns-clause-retained : goal.returns-clause-retained
returns-clause-retained g c = (_, retains-on (λ q. q.0) _ (Reads g.F.FnMut) (λ q x answer r y a. search rules) _ c.args.self.now _ _ c.retain_by.ensures)

pub returns-clause-pure_test : goal.returns-clause-pure_test
returns-clause-pure_test g c =
    λ test pure. kept-all (Reads g.F.FnMut) _ c.args.self.now _ c.retain_by.new.self test (λ x b h y e. let p = pure x b h e.0 in (p.0, e.1, p.1)) (returns-clause-retained g c).1
