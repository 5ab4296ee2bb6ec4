use Rattle.aa_vec.proofs.{Deduplicates, Deduplicates-lent, Equals, refl, rules}
use Rattle.aa_vec.proofs.PureTests.{Deduplicates_dedup}
use Rattle.aa_vec.proofs.vec.Vec.dedup.Goals as goal

pub returns : goal.returns
returns g c =
    let r : Deduplicates (Equals g.T.PartialEq.eq) tt c.args.self.now tt c.dedup_within.new.self =
    Deduplicates-lent (λ q. tt) _ (Equals g.T.PartialEq.eq) (λ q x l answer r y k a. search rules)
    (λ q. q) (λ q x l answer r y k a. refl) _ c.args.self.now _ _ tt c.dedup_within.ensures
    (λ e. refl) in
    record {
      items = Deduplicates_dedup _ g.T.PartialEq.eq _ _ _ _ r (λ f x l answer h y k e. e);
      removed = r;
    }
