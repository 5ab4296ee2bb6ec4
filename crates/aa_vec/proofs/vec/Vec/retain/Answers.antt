use Rattle.aa_vec.proofs.{IsCallableInOrder-on, Retains-on, TakesAt, rules}
use Rattle.aa_vec.proofs.Common.{Reads}
use Rattle.aa_vec.proofs.Callers.{Retains_filter_reading}
use Rattle.aa_vec.proofs.vec.Vec.retain.Goals as goal

pub retain_by-requires : goal.retain_by-requires
retain_by-requires g c = IsCallableInOrder-on (λ q. q.0) _ (Reads g.F.FnMut)
    (λ q x answer r y a. search rules) _ (TakesAt g.F.FnMut)
    (λ q x may. search rules) _ c.args.self.now.items c.requires

pub returns-clause-retained : goal.returns-clause-retained
returns-clause-retained g c = (
  _,
  Retains-on (λ q. q.0) _ (Reads g.F.FnMut) (λ q x answer r y a. search rules) _
      c.args.self.now _ _ c.retain_by.ensures,
)

pub returns-clause-pure_test : goal.returns-clause-pure_test
returns-clause-pure_test g c = λ test pure. Retains_filter_reading _ test _ _ _ _
    (returns-clause-retained g c).1 (λ x answer next y a. let s = pure x answer next a.0 in
    (s.0, a.1, s.1))
