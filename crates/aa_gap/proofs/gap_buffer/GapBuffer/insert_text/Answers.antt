use Rattle.aa_gap.proofs.{refl, subst}
use Rattle.aa_gap.proofs.Extending.{All-after}
use Rattle.aa_gap.specs.Extending.{InsertsClones}
use Rattle.aa_gap.proofs.gap_buffer.GapBuffer.insert_text.Goals as goal

pub returns-clause-added : goal.returns-clause-added
returns-clause-added g c =
    λ so. let clones = g.T.Clone.is_clone in let mid = c.insert_clones.new.self in (
      mid,
      subst (λ xs. InsertsClones clones c.args.self.now xs mid) c.before-2.ensures
          (c.if-not-insert_clones.ensures.added refl),
      subst (λ xs. InsertsClones clones mid xs c.insert_clones-2.new.self) c.after.ensures
          (c.insert_clones-2.ensures.added so),
    )

pub returns-clause-failed : goal.returns-clause-failed
returns-clause-failed g c = λ no all. c.insert_clones-2.ensures.failed no
    (rw c.after.ensures
    (All-after g.T.Clone.is_infallible c.args.source.now.before c.args.source.now.after all))
