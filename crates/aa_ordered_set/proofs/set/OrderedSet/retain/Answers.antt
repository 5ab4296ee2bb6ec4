use Rattle.std.proofs.Common.{ap, rules, subst}
use denote.Param.Always.{always_mut, mut_by}
use Rattle.std.specs.Fn.{CalledAt}
use Rattle.std.specs.List.Retain.{IsFiltered}
use Rattle.std.specs.Map.{keys_of}
use Rattle.std.proofs.lemmas.Fn.{filter_same}
use Rattle.aa_ordered_set.specs.Sets.{SetView}
use Rattle.aa_ordered_set.proofs.Sifting.{sifted}
use Rattle.aa_ordered_set.proofs.set.OrderedSet.retain.Goals as goal

pub retain-requires : goal.retain-requires
retain-requires g c = mut_by _ (λ k. always_mut g.F.FnMut k.0) (λ s a i. i) (λ s a r t i e. search rules) _ c.requires

pub returns-clause-kept : goal.returns-clause-kept
returns-clause-kept g c =
    let h = c.retain.ensures.kept in
    subst (λ xs. IsFiltered (CalledAt g.F.FnMut) c.args.f xs (keys_of c.retain.new.self.entries)) (ap (λ (s : SetView _). s.elements) c.self.view_is)
    (sifted _ (CalledAt g.F.FnMut) (λ k. k.0) (λ f key before keep after next call. search rules) _ c.self.inside.map.entries c.retain.new.self.entries h.0 h.1)

pub returns-clause-pure_test : goal.returns-clause-pure_test
returns-clause-pure_test g c = λ test pure. filter_same (CalledAt g.F.FnMut) test c.args.f pure _ _ (returns-clause-kept g c)
