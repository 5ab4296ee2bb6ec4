use Rattle.aa_vec.proofs.{CallableAtKeys, CalledAtMut, ComparesKeys, Deduplicates-lent, IsCallableAlong-on, rules, subst, ◌∙◌}
use Rattle.aa_vec.proofs.PureTests.{Deduplicates_dedup}
use Rattle.aa_vec.proofs.vec.Vec.dedup_within_key.Goals as goal

pub dedup_within-requires : goal.dedup_within-requires
dedup_within-requires g c =
    IsCallableAlong-on (λ q. q.0.now) _ (ComparesKeys g.F.FnMut g.K.PartialEq.eq)
    (λ q x l answer r y k a. search rules) _ (CallableAtKeys g.F.FnMut)
    (λ q x l may p r e d. (
      λ s f. may.0 s (f ∙ e),
      λ key next y a s f.
          may.1 key next y (subst (λ z. CalledAtMut g.F.FnMut q.0.now z key next y) e a) s (f ∙ d),
    )) _
    c.args.self.now.items c.requires

pub returns-clause-removed : goal.returns-clause-removed
returns-clause-removed g c =
    Deduplicates-lent (λ q. q.0.now) _ (ComparesKeys g.F.FnMut g.K.PartialEq.eq)
    (λ q x l answer r y k a. search rules) (λ q. q.0.ghost_name)
    (λ q x l answer r y k a. search rules) _ c.args.self.now _ _ _ c.dedup_within.ensures
    (λ e. search rules)

pub returns-clause-pure_test : goal.returns-clause-pure_test
returns-clause-pure_test g c = λ same steady. Deduplicates_dedup _ same _ _ _ _
    (returns-clause-removed g c) steady
