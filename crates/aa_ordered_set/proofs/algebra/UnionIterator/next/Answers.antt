use Rattle.std.proofs.Common.{refl, true}
use Rattle.std.specs.Map.Iter.{deref}
use Rattle.std_collections.proofs.IterRuns.{first_progress}
use Rattle.std_collections.proofs.SetLists.{takes_along}
use Rattle.std_collections.proofs.SortedSets.{first_alone}
use Rattle.aa_ordered_set.proofs.algebra.UnionIterator.next.Goals as goal

pub returns-in_default-peek-clause-steps : goal.returns-in_default-peek-clause-steps
returns-in_default-peek-clause-steps g c =
    let s = c.self.inside in let r = c.next-in_default-peek.result in
    takes_along deref r c.self.view_is refl (first_alone g.T.Ord.cmp true deref r s.first _ s.second c.in_default-peek.ensures.0 c.next-in_default-peek.ensures)

pub returns-in_default-peek-clause-goes : goal.returns-in_default-peek-clause-goes
returns-in_default-peek-clause-goes g c =
    first_progress deref _ _ c.next-in_default-peek.result (returns-in_default-peek-clause-steps g c)
