use Rattle.std.proofs.Common.{rules, ap, ◌∙◌}
use Rattle.std.specs.Fn.{TakesAt}
use Rattle.allocator_api2.specs.Choosing.{Reads}
use Rattle.aa_inline.proofs.Sifting.{callable-on, kept-by, retains-on}
use Rattle.aa_inline.proofs.inline.InlineVec.retain.Goals as goal

pub retain_by-requires : goal.retain_by-requires
retain_by-requires g c = (search rules, callable-on (λ q. q.0) _ (Reads g.F.FnMut) (λ q x b r y a. search rules) _ (TakesAt g.F.FnMut) (λ q x may. search rules) _ c.args.self.now.items c.requires)

pub returns-clause-retained : goal.returns-clause-retained
returns-clause-retained g c = (_, retains-on (λ q. q.0) _ (Reads g.F.FnMut) (λ q x b r y a. search rules) _ c.args.self.now _ _ c.retain_by.ensures)

pub returns-clause-pure_test : goal.returns-clause-pure_test
returns-clause-pure_test g c =
    let r = returns-clause-retained g c in
    λ test pure. ap (λ s. s.items) r.1.put ∙ kept-by (Reads g.F.FnMut) c.args.f r.0 test (λ x b h y e. let p = pure x b h e.0 in (p.0, e.1, p.1)) c.args.self.now.items r.1.calls r.1.called
