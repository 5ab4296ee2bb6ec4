use Rattle.std.proofs.Common.{rules, ap, subst, ◌∙◌}
use Rattle.std.specs.Fn.{CalledAtMut, ComparesKeys}
use Rattle.allocator_api2.specs.Choosing.{CallableAtKeys}
use Rattle.aa_inline.proofs.Distinguishing.{callable-on, dedup-by, deduplicates-on}
use Rattle.aa_inline.proofs.inline.InlineVec.dedup_by_key.Goals as goal

pub dedup_within-requires : goal.dedup_within-requires
dedup_within-requires g c = (
  search rules,
  callable-on (λ q. q.0) _ (ComparesKeys g.F.FnMut g.K.PartialEq.eq) (λ q x l b r y m a. search rules) _ (CallableAtKeys g.F.FnMut) (λ q x l may p r e d. (λ s f. may.0 s (f ∙ e), λ key next y a s f. may.1 key next y (subst (λ z. CalledAtMut g.F.FnMut q.0 z key next y) e a) s (f ∙ d))) _ c.args.self.now.items c.requires,
)

pub returns-clause-removed : goal.returns-clause-removed
returns-clause-removed g c = (_, deduplicates-on (λ q. q.0) _ (ComparesKeys g.F.FnMut g.K.PartialEq.eq) (λ q x l b r y m a. search rules) _ c.args.self.now _ _ c.dedup_within.ensures)

pub returns-clause-pure_test : goal.returns-clause-pure_test
returns-clause-pure_test g c =
    let r = (returns-clause-removed g c).1 in
    λ same pure. ap (λ s. s.items) r.put ∙ dedup-by (ComparesKeys g.F.FnMut g.K.PartialEq.eq) same pure _ c.args.self.now.items r.results _ r.left r.called
