use Rattle.std.proofs.Common.{ap, subst}
use Rattle.std.specs.Prelude.{map}
use Rattle.std.specs.Fn.{CalledAt}
use Rattle.std.specs.List.Retain.{IsFiltered}
use Rattle.std.proofs.lemmas.Fn.{filter_same}
use Rattle.aa_table.specs.SetContents.{SetView}
use Rattle.aa_table.proofs.Sifting.{sifted}
use Rattle.aa_table.proofs.set.Set.retain.Goals as goal

pub returns-clause-kept : goal.returns-clause-kept
returns-clause-kept g c =
    let kept = c.retain_by.new.self.entries in
    subst (λ xs. IsFiltered (CalledAt g.F.FnMut) c.args.f xs (map (λ e. e.0) kept)) (ap (λ (s : SetView _ _). s.elements) c.self.view_is)
    (sifted (CalledAt g.F.FnMut) c.args.f c.self.inside.table.entries kept c.retain_by.new.keeper c.retain_by.ensures.kept)

pub returns-clause-pure_test : goal.returns-clause-pure_test
returns-clause-pure_test g c = λ test pure. filter_same (CalledAt g.F.FnMut) test c.args.f pure _ _ (returns-clause-kept g c)
