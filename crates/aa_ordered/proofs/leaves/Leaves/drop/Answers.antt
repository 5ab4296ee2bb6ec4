use Rattle.std.proofs.Common.{◌≤◌, ℕ, subst, sym, take}
use Rattle.aa_ordered.specs.Arena.{heads_of}
use Rattle.aa_ordered.proofs.Arena.{once-taken}
use Rattle.aa_ordered.proofs.leaves.Leaves.drop.Goals as goal

pub drop_lists-requires-clause-once : goal.drop_lists-requires-clause-once
drop_lists-requires-clause-once g c =
    let a = c.self.inside in
    subst (λ hs. (leaf : ℕ) → heads_of leaf (take a.used hs) ≤ 1) (sym c.as_slice.ensures) (once-taken a.block.places a.heads.items a.used c.self.invariant)
