use Rattle.std.proofs.Common.{◌≡◌, ap, length, rules, Some, ◌∙◌}
use Rattle.aa_ordered.specs.IterMut.{Lent}
use Rattle.aa_ordered.proofs.iter_mut.IterMutIterator.size_hint.Goals as goal

pub returns-clause-lower : goal.returns-clause-lower
returns-clause-lower g c =
    let left : c.self.inside.left ≡ length c.args.self.now.entries = c.self.invariant.count ∙ ap (λ (v : Lent g.row.K.Denot g.row.V.Denot). length v.entries) c.self.view_is in
    search (rules, left)

pub returns-clause-exact : goal.returns-clause-exact
returns-clause-exact g c =
    let left : c.self.inside.left ≡ length c.args.self.now.entries = c.self.invariant.count ∙ ap (λ (v : Lent g.row.K.Denot g.row.V.Denot). length v.entries) c.self.view_is in
    λ i. (left i, Some (left i))
