use Rattle.std.proofs.Common.{◌≤◌, length, subst, All}
use Rattle.aa_ordered.specs.Leaves.{LeavesView}
use Rattle.aa_ordered.proofs.Arena.{lists-small}
use Rattle.aa_ordered.proofs.leaves.Leaves.prove_bounds.Goals as goal

pub returns-clause-lists : goal.returns-clause-lists
returns-clause-lists g c =
    let a = c.self.inside in
    subst (λ (v : LeavesView _). All (λ l. length l ≤ 64) v.lists) c.self.view_is (lists-small a.block.places a.heads.items a.used c.self.invariant)
