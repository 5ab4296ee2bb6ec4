use Rattle.std.proofs.Common.{◌≡◌, ap, length, rules, ◌∙◌}
use Rattle.aa_ordered.specs.IterMut.{Lent}
use Rattle.aa_ordered.proofs.iter_mut.IterMutExactSizeIterator.len.Goals as goal

pub returns-clause-value : goal.returns-clause-value
returns-clause-value g c =
    let left : c.self.inside.left ≡ length c.args.self.now.entries = c.self.invariant.count ∙ ap (λ (v : Lent g.row.K.Denot g.row.V.Denot). length v.entries) c.self.view_is in
    search (rules, left)
